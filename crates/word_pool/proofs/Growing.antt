-- One more word in a pool.
use Rattle.std.proofs.Common.{◌≡◌, ℕ, ◌<◌, List, [], ◌∷◌, ◌++◌, length, refl, ap, sym, ◌∙◌, inl, inr, arith}
use Rattle.std.proofs.lemmas.Bool.{cases_eq}
use Rattle.std.proofs.lemmas.List.{get_or_append_left, get_or_push, length_push}
use Rattle.word_pool.specs.declared.trie.Node.{Node}
use Rattle.word_pool.specs.Words.{word}
use Rattle.word_pool.specs.Trie.{node_at, IsTrie, IsPlace}
use Rattle.word_pool.proofs.Nodes.{apart, goes_through}
use Rattle.word_pool.proofs.Rings.{letter_at, IsGrown, absent, linked}

-- the words with the word of `p` that is followed by `a`
abbrev pub more : List (List ℕ) → ℕ → ℕ → List (List ℕ)
more ws p a = ws ++ (word ws p ++ a ∷ []) ∷ []

-- the word of `p` that is followed by `a` is not there where the child at the place of `a` has another letter
pub not_there : (ns : List Node) (ws : List (List ℕ)) → IsTrie ns ws → (p a place : ℕ) → IsPlace ns p a place → (0 < place → ¬ (letter_at ns place ≡ a)) →
    p < length ns → (i : ℕ) → i < length ns → word ws i ≡ word ws p ++ a ∷ [] → ⊥
not_there ns ws t p a place h fresh hp i inside e =
    let r = goes_through ns ws t i inside p hp a [] e in
    absent ns p a place t.links h fresh r.child r.is_child r.letter

module _ (ns new : List Node) (ws : List (List ℕ)) (t : IsTrie ns ws) (p a place : ℕ) (g : IsGrown ns new p a place) (h : IsPlace ns p a place)
    (fresh : 0 < place → ¬ (letter_at ns place ≡ a)) (hp : p < length ns) where
  word_old : (j : ℕ) → j < length ns → word (more ws p a) j ≡ word ws j
  word_old j inside = get_or_append_left ws ((word ws p ++ a ∷ []) ∷ []) [] j (omega (arith, inside, t.size))

  pub word_new : word (more ws p a) (length ns) ≡ word ws p ++ a ∷ []
  word_new = get_or_push ws (word ws p ++ a ∷ []) [] (length ns) t.size

  inside_old : (j : ℕ) → j < length new → ¬ (j ≡ length ns) → j < length ns
  inside_old j inside n = omega (arith, inside, g.size, n)

  lower_new : (j : ℕ) → 0 < j → j < length new → (node_at new j).parent < j
  lower_new j z inside = elim (cases_eq j (length ns)) as (λ _. (node_at new j).parent < j) [
    | inl e ↦ let e' : j ≡ length ns = e in omega (arith, e', ap (λ x. (node_at new x).parent) e', g.parent, hp)
    | inr n ↦ omega (arith, g.parents j n, t.lower j z (inside_old j inside n))
  ]

  extends_new : (j : ℕ) → 0 < j → j < length new → word (more ws p a) j ≡ word (more ws p a) (node_at new j).parent ++ (node_at new j).letter ∷ []
  extends_new j z inside = elim (cases_eq j (length ns)) as (λ _. word (more ws p a) j ≡ word (more ws p a) (node_at new j).parent ++ (node_at new j).letter ∷ []) [
    | inl e ↦ let e' : j ≡ length ns = e in rw (e', g.parent, g.letter, word_new, word_old p hp) refl
    | inr n ↦
        let within = inside_old j inside n in
        let low : (node_at ns j).parent < length ns = omega (arith, t.lower j z within, within) in
        rw (g.parents j n, g.letters j n, word_old j within, word_old (node_at ns j).parent low) (t.extends j z within)
  ]

  depths_new : (j : ℕ) → j < length new → (node_at new j).depth ≡ length (word (more ws p a) j)
  depths_new j inside = elim (cases_eq j (length ns)) as (λ _. (node_at new j).depth ≡ length (word (more ws p a) j)) [
    | inl e ↦ let e' : j ≡ length ns = e in rw (e', g.depth, word_new) (omega (arith, t.depths p hp, length_push (word ws p) a))
    | inr n ↦ rw (g.depths j n, word_old j (inside_old j inside n)) (t.depths j (inside_old j inside n))
  ]

  different_new : (i j : ℕ) → i < length new → j < length new → word (more ws p a) i ≡ word (more ws p a) j → i ≡ j
  different_new i j hi hj e = elim (cases_eq i (length ns)) as (λ _. i ≡ j) [
    | inl d ↦
        let d' : i ≡ length ns = d in
        elim (cases_eq j (length ns)) as (λ _. i ≡ j) [
          | inl f ↦ d' ∙ sym f
          | inr n ↦
              let within = inside_old j hj n in
              absurd (not_there ns ws t p a place h fresh hp j within (sym (word_old j within) ∙ (sym e ∙ (ap (λ x. word (more ws p a) x) d' ∙ word_new))))
        ]
    | inr m ↦
        let before = inside_old i hi m in
        elim (cases_eq j (length ns)) as (λ _. i ≡ j) [
          | inl f ↦ let f' : j ≡ length ns = f in
              absurd (not_there ns ws t p a place h fresh hp i before (sym (word_old i before) ∙ (e ∙ (ap (λ x. word (more ws p a) x) f' ∙ word_new))))
          | inr n ↦
              let within = inside_old j hj n in
              t.different i j before within (sym (word_old i before) ∙ (e ∙ word_old j within))
        ]
  ]

  pub trie_more : length ns < 4294967295 → IsTrie new (more ws p a)
  trie_more few = record {
    some = omega (arith, g.size);
    few = omega (arith, g.size, few);
    size = omega (arith, length_push ws (word ws p ++ a ∷ []), t.size, g.size);
    root = word_old 0 t.some ∙ t.root;
    lower = lower_new;
    extends = extends_new;
    depths = depths_new;
    different = different_new;
    links = linked ns new p a place t.links g h fresh (apart ns ws t p) t.some;
  }
