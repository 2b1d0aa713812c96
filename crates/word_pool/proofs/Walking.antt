-- A walk over the words in lexicographic order, and how many are left.
use Rattle.std.proofs.Common.{◌≡◌, ℕ, suc, zero, ◌<◌, ◌≤◌, ◌⊎◌, Bool, true, false, ◌&&◌, ◌||◌, cond, eqb, ltb, List, [], ◌∷◌, ◌++◌, length, get_or, Contains, refl, inl, inr, arith}
use Rattle.std.specs.List.{count_by, All, AllPairs}
use Rattle.std.proofs.lemmas.Bool.{cases_Bool, or_cases, and_parts, and_from, ltb-true, lt-ltb, eqb-true, eq-eqb, false_from_ne_true, or_left}
use Rattle.std.proofs.lemmas.List.Elements.{All-push, Contains-push, Contains-append_left}
use Rattle.std.proofs.lemmas.List.Quantifiers.{all_pairs_push}
use Rattle.std.proofs.lemmas.List.Sums.{sum_by-cons}
use Rattle.word_pool.specs.declared.trie.Node.{Node}
use Rattle.word_pool.specs.Words.{word}
use Rattle.word_pool.specs.Order.{IsBelow, IsEnd, AreEnds}
use Rattle.word_pool.specs.Trie.{node_at, IsTrie, IsNext}
use Rattle.word_pool.proofs.Orders.{below_trans, below_itself, cases_below}
use Rattle.word_pool.proofs.Nodes.{child_word, goes_through}

-- the test of `IsBelow`
abbrev pub is_below : List ℕ → List ℕ → Bool
is_below u [] = false
is_below [] (b ∷ w) = true
is_below (a ∷ u) (b ∷ w) = ltb a b || (eqb a b && is_below u w)

from_below : (u w : List ℕ) → IsBelow u w → is_below u w ≡ true
from_below u [] h = absurd h
from_below [] (b ∷ w) h = refl
from_below (a ∷ u) (b ∷ w) (inl h) = or_left (ltb a b) (eqb a b && is_below u w) (lt-ltb a b h)
from_below (a ∷ u) (b ∷ w) (inr h) = or_right (ltb a b) (eqb a b && is_below u w) (and_from (eqb a b) (is_below u w) (eq-eqb a b h.0) (from_below u w h.1))
  where
    or_right : (x y : Bool) → y ≡ true → (x || y) ≡ true
    or_right true y e = refl
    or_right false y e = e

to_below : (u w : List ℕ) → is_below u w ≡ true → IsBelow u w
to_below u [] e = cc
to_below [] (b ∷ w) e = tt
to_below (a ∷ u) (b ∷ w) e = elim (or_cases (ltb a b) (eqb a b && is_below u w) e) as (λ _. (a < b) ⊎ ((a ≡ b) × IsBelow u w)) [
  | inl h ↦ inl (ltb-true a b h)
  | inr h ↦ let p = and_parts (eqb a b) (is_below u w) h in inr (eqb-true a b p.0, to_below u w p.1)
]

module _ {X : Type 0} (p q : X → Bool) (weaker : (x : X) → p x ≡ true → q x ≡ true) where
  one_le : (x : X) → cond (p x) 1 0 ≤ cond (q x) 1 0
  one_le x = elim (cases_Bool (p x)) as (λ _. cond (p x) 1 0 ≤ cond (q x) 1 0) [
    | inl e ↦ rw (e, weaker x e) (omega arith)
    | inr e ↦ rw (e) (omega arith)
  ]

  count_le : (xs : List X) → count_by p xs ≤ count_by q xs
  count_le [] = omega arith
  count_le (x ∷ xs) = rw (sum_by-cons (λ y. cond (p y) 1 0) x xs, sum_by-cons (λ y. cond (q y) 1 0) x xs) (omega (arith, one_le x, count_le xs))

  -- a test that fails where a weaker one does not passes less often
  pub count_less : (xs : List X) (i : ℕ) (d : X) → i < length xs → p (get_or xs i d) ≡ false → q (get_or xs i d) ≡ true → count_by p xs < count_by q xs
  count_less [] i d h e f = absurd (omega (arith, h))
  count_less (x ∷ xs) zero d h e f = rw (sum_by-cons (λ y. cond (p y) 1 0) x xs, sum_by-cons (λ y. cond (q y) 1 0) x xs, e, f) (omega (arith, count_le xs))
  count_less (x ∷ xs) (suc i) d h e f = rw (sum_by-cons (λ y. cond (p y) 1 0) x xs, sum_by-cons (λ y. cond (q y) 1 0) x xs)
      (omega (arith, one_le x, count_less xs i d (omega (arith, h)) e f))

-- how many words stand after the word `here`
abbrev pub left_after : List (List ℕ) → ℕ → ℕ
left_after ws here = count_by (λ w. is_below (word ws here) w) ws

pub fewer_left : (ws : List (List ℕ)) (here next : ℕ) → IsNext ws here next → 0 < next → left_after ws next < left_after ws here
fewer_left ws here next n z =
    count_less (λ w. is_below (word ws next) w) (λ w. is_below (word ws here) w)
    (λ w e. from_below (word ws here) w (below_trans (word ws here) (word ws next) w (n.above z) (to_below (word ws next) w e)))
    ws next [] n.inside (false_from_ne_true (is_below (word ws next) (word ws next)) (λ e. below_itself (word ws next) (to_below (word ws next) (word ws next) e)))
    (from_below (word ws here) (word ws next) (n.above z))

-- the ends before the word `here` were found
pub record IsWalked (ws : List (List ℕ)) (here : ℕ) (ids : List ℕ) : Type 0 where
  pub inside : here < length ws
  pub ends : All (IsEnd ws) ids
  pub each : (i : ℕ) → IsEnd ws i → IsBelow (word ws i) (word ws here) → Contains ids i
  pub ascending : AllPairs (λ i j. IsBelow (word ws i) (word ws j)) ids
  pub before : All (λ i. IsBelow (word ws i) (word ws here)) ids

-- the ends up to the word `here` were found
pub record IsVisited (ws : List (List ℕ)) (here : ℕ) (ids : List ℕ) : Type 0 where
  pub inside : here < length ws
  pub ends : All (IsEnd ws) ids
  pub each : (i : ℕ) → IsEnd ws i → (i ≡ here) ⊎ IsBelow (word ws i) (word ws here) → Contains ids i
  pub ascending : AllPairs (λ i j. IsBelow (word ws i) (word ws j)) ids
  pub upto : All (λ i. (i ≡ here) ⊎ IsBelow (word ws i) (word ws here)) ids

pub walk_next : (ws : List (List ℕ)) → ((i j : ℕ) → i < length ws → j < length ws → word ws i ≡ word ws j → i ≡ j) → (here next : ℕ) (ids : List ℕ) → IsVisited ws here ids → IsNext ws here next → 0 < next → IsWalked ws next ids
walk_next ws different here next ids v n z = record {
  inside = n.inside;
  ends = v.ends;
  each = λ i e b. v.each i e (not_after i e b (cases_below (word ws i) (word ws here)));
  ascending = v.ascending;
  before = λ k d h. elim (v.upto k d h) as (λ _. IsBelow (word ws (get_or ids k d)) (word ws next)) [
    | inl e ↦ rw (e) (n.above z)
    | inr b ↦ below_trans (word ws (get_or ids k d)) (word ws here) (word ws next) b (n.above z)
  ];
}
  where
    not_after : (i : ℕ) → IsEnd ws i → IsBelow (word ws i) (word ws next) → (word ws i ≡ word ws here) ⊎ (IsBelow (word ws i) (word ws here) ⊎ IsBelow (word ws here) (word ws i)) →
        (i ≡ here) ⊎ IsBelow (word ws i) (word ws here)
    not_after i e b (inl d) = inl (different i here e.inside v.inside d)
    not_after i e b (inr (inl d)) = inr d
    not_after i e b (inr (inr d)) = elim ((n.least i e.inside d).1) as (λ _. (i ≡ here) ⊎ IsBelow (word ws i) (word ws here)) [
      | inl f ↦ let f' : i ≡ next = f in absurd (below_itself (word ws next) (rw (f') at b))
      | inr f ↦ absurd (below_itself (word ws i) (below_trans (word ws i) (word ws next) (word ws i) b f))
    ]

pub walk_all : (ws : List (List ℕ)) → ((i j : ℕ) → i < length ws → j < length ws → word ws i ≡ word ws j → i ≡ j) → (here : ℕ) (ids : List ℕ) →
    IsVisited ws here ids → IsNext ws here 0 → AreEnds ws ids
walk_all ws different here ids v n = record {
  ends = v.ends;
  each = λ i e. v.each i e (elim (cases_below (word ws i) (word ws here)) as (λ _. (i ≡ here) ⊎ IsBelow (word ws i) (word ws here)) [
    | inl d ↦ inl (different i here e.inside v.inside d)
    | inr d ↦ elim d as (λ _. (i ≡ here) ⊎ IsBelow (word ws i) (word ws here)) [
      | inl b ↦ inr b
      | inr b ↦ absurd (omega (arith, (n.least i e.inside b).0))
    ]
  ]);
  ascending = v.ascending;
}

module _ (ns : List Node) (ws : List (List ℕ)) (t : IsTrie ns ws) where
  -- a word without children is an end
  is_end : (i : ℕ) → i < length ns → (node_at ns i).child ≡ 0 → IsEnd ws i
  is_end i h e = record {
    inside = omega (arith, h, t.size);
    longest = λ k hk p.
        let g = goes_through ns ws t k (omega (arith, hk, t.size)) i h p.0 p.1.0 p.1.1 in
        omega (arith, t.links.some i g.child g.is_child, e);
  }

  -- and a word with children is none
  no_end : (i : ℕ) → 0 < (node_at ns i).child → IsEnd ws i → ⊥
  no_end i z e =
      let c = t.links.named i z in
      e.longest (node_at ns i).child (omega (arith, c.inside, t.size)) ((node_at ns (node_at ns i).child).letter, ([], child_word ns ws t i (node_at ns i).child c))

  pub visit_end : (here : ℕ) (ids : List ℕ) → IsWalked ws here ids → (node_at ns here).child ≡ 0 → IsVisited ws here (ids ++ here ∷ [])
  visit_end here ids w e = record {
    inside = w.inside;
    ends = All-push (IsEnd ws) ids here w.ends (is_end here (omega (arith, w.inside, t.size)) e);
    each = λ i d h. elim h as (λ _. Contains (ids ++ here ∷ []) i) [
      | inl f ↦ let f' : i ≡ here = f in rw (f') (Contains-push ids here)
      | inr b ↦ Contains-append_left ids (here ∷ []) i (w.each i d b)
    ];
    ascending = all_pairs_push (λ i j. IsBelow (word ws i) (word ws j)) ids here w.ascending w.before;
    upto = All-push (λ i. (i ≡ here) ⊎ IsBelow (word ws i) (word ws here)) ids here (λ k d h. inr (w.before k d h)) (inl refl);
  }

  pub visit_inner : (here : ℕ) (ids : List ℕ) → IsWalked ws here ids → 0 < (node_at ns here).child → IsVisited ws here ids
  visit_inner here ids w z = record {
    inside = w.inside;
    ends = w.ends;
    each = λ i d h. elim h as (λ _. Contains ids i) [
      | inl f ↦ let f' : i ≡ here = f in absurd (no_end here z (rw (f') at d))
      | inr b ↦ w.each i d b
    ];
    ascending = w.ascending;
    upto = λ k d h. inr (w.before k d h);
  }
