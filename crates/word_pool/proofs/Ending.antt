-- Each word of a list is a prefix of one that is a proper prefix of none.
use Rattle.std.proofs.Common.{◌≡◌, ℕ, suc, zero, ◌+◌, ◌<◌, ◌≤◌, ◌⊎◌, List, [], ◌∷◌, ◌++◌, length, refl, ap, sym, ◌∙◌, inl, inr, append_assoc, arith}
use Rattle.std.proofs.lemmas.Bool.{cases_eq}
use Rattle.std.proofs.lemmas.List.{append-nil, get_or-map, length-append, length-map}
use Rattle.word_pool.specs.Words.{word, words_at, ArePrefixesOf, IsPrefix, IsProperPrefix}
use Rattle.word_pool.specs.Order.{IsEnd, AreEnds}

-- whether a word goes on from another
goes_on : (u w : List ℕ) → IsProperPrefix u w ⊎ ¬ IsProperPrefix u w
goes_on [] [] = inr (λ p. cc p.1.1)
goes_on (x ∷ u) [] = inr (λ p. cc p.1.1)
goes_on [] (b ∷ w) = inl (b, (w, refl))
goes_on (x ∷ u) (b ∷ w) = elim (cases_eq x b) as (λ _. IsProperPrefix (x ∷ u) (b ∷ w) ⊎ ¬ IsProperPrefix (x ∷ u) (b ∷ w)) [
  | inl e ↦ elim (goes_on u w) as (λ _. IsProperPrefix (x ∷ u) (b ∷ w) ⊎ ¬ IsProperPrefix (x ∷ u) (b ∷ w)) [
    | inl p ↦ inl (p.0, (p.1.0, cc (e, p.1.1)))
    | inr n ↦ inr (λ p. n (p.0, (p.1.0, cc p.1.1)))
  ]
  | inr n ↦ inr (λ p. n (cc p.1.1))
]

-- a word among the first n that goes on from u, if there is one
abbrev IsGoneOn : List (List ℕ) → List ℕ → ℕ → Type 0
IsGoneOn ws u n = (k : ℕ) × ((k < n) × IsProperPrefix u (word ws k))

abbrev IsNotGoneOn : List (List ℕ) → List ℕ → ℕ → Type 0
IsNotGoneOn ws u n = (k : ℕ) → k < n → ¬ IsProperPrefix u (word ws k)

longer : (ws : List (List ℕ)) (u : List ℕ) (n : ℕ) → IsGoneOn ws u n ⊎ IsNotGoneOn ws u n
longer ws u zero = inr (λ k h. absurd (omega (arith, h)))
longer ws u (suc n) = elim (longer ws u n) as (λ _. IsGoneOn ws u (suc n) ⊎ IsNotGoneOn ws u (suc n)) [
  | inl p ↦ inl (p.0, (omega (arith, p.1.0), p.1.1))
  | inr none ↦ elim (goes_on u (word ws n)) as (λ _. IsGoneOn ws u (suc n) ⊎ IsNotGoneOn ws u (suc n)) [
    | inl p ↦ inl (n, (omega arith, p))
    | inr not ↦ inr (λ k h. elim (cases_eq k n) as (λ _. ¬ IsProperPrefix u (word ws k)) [
      | inl e ↦ let e' : k ≡ n = e in rw (e') not
      | inr d ↦ none k (omega (arith, h, d))
    ])
  ]
]

-- at least as much as the longest word has letters
abbrev most : List (List ℕ) → ℕ
most [] = 0
most (w ∷ ws) = length w + most ws

within_most : (ws : List (List ℕ)) (k : ℕ) → k < length ws → length (word ws k) ≤ most ws
within_most [] k h = absurd (omega (arith, h))
within_most (w ∷ ws) zero h = let e : length w ≤ length w + most ws = omega arith in e
within_most (w ∷ ws) (suc k) h =
    let e : length (word ws k) ≤ length w + most ws = omega (arith, within_most ws k (omega (arith, h))) in
    e

end_from : (ws : List (List ℕ)) (left i : ℕ) → i < length ws → most ws < length (word ws i) + left →
    (e : ℕ) × (IsEnd ws e × IsPrefix (word ws i) (word ws e))
end_from ws zero i h few = absurd (omega (arith, few, within_most ws i h))
end_from ws (suc left) i h few = elim (longer ws (word ws i) (length ws)) as (λ _. (e : ℕ) × (IsEnd ws e × IsPrefix (word ws i) (word ws e))) [
  | inr none ↦ (i, (record { inside = h; longest = none }, ([], sym (append-nil (word ws i)))))
  | inl p ↦
      let v : List ℕ = p.1.1.0 ∷ p.1.1.1.0 in
      let size : length (word ws p.0) ≡ length (word ws i) + length v = ap (λ x. length x) p.1.1.1.1 ∙ length-append (word ws i) v in
      let some : 0 < length v = omega arith in
      let r = end_from ws left p.0 p.1.0 (omega (arith, few, size, some)) in
      (r.0, (r.1.0, (v ++ r.1.1.0, r.1.1.1 ∙ (ap (λ x. x ++ r.1.1.0) p.1.1.1.1 ∙ append_assoc (word ws i) v r.1.1.0))))
]

-- the words at which a pool ends have all its words for prefixes
pub ends_cover : (ws : List (List ℕ)) (ids : List ℕ) → AreEnds ws ids → ArePrefixesOf ws (words_at ws ids)
ends_cover ws ids e i h =
    let r = end_from ws (most ws + 1) i h (omega arith) in
    let c = e.each r.0 r.1.0 in
    let is : word (words_at ws ids) c.0 ≡ word ws r.0 = get_or-map (word ws) ids c.0 r.0 [] c.1 ∙ ap (word ws) c.2 in
    (c.0, (rw (length-map ids (word ws)) c.1, (r.1.1.0, is ∙ r.1.1.1)))
