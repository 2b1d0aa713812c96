-- A word that is entered into a pool letter by letter.
use Rattle.std.proofs.Common.{◌≡◌, ℕ, ◌+◌, ◌<◌, ◌≤◌, List, [], ◌∷◌, ◌++◌, length, get_or, take, slice_get, Some, ap, sym, ◌∙◌, inl, inr, append_assoc, arith}
use Rattle.std.proofs.lemmas.Bool.{cases_lt}
use Rattle.std.proofs.lemmas.List.{append-nil, get_or_append_left, get_or_push, length_push, take_more}
use Rattle.std.proofs.lemmas.Option.{get_or_from_slice_get}
use Rattle.word_pool.specs.Words.{word, Enters, EntersAfter, Keeps, extension_of}

-- the first n letters of w were entered, and `at` is their id
pub record IsEntering (old : List (List ℕ)) (u w : List ℕ) (new : List (List ℕ)) (n at : ℕ) : Type 0 where
  pub here : slice_get new at ≡ Some (u ++ take n w)
  pub keeps : Keeps old new
  pub more : length old ≤ length new
  pub few : length new ≤ length old + n
  pub only : (i : ℕ) → length old ≤ i → i < length new → (k : ℕ) × ((k ≤ n) × (word new i ≡ u ++ take k w))

pub entering_none : (old : List (List ℕ)) (u w : List ℕ) (at : ℕ) → slice_get old at ≡ Some u → IsEntering old u w old 0 at
entering_none old u w at e = record {
  here = e ∙ ap Some (sym (append-nil u));
  keeps = λ i v h. h;
  more = omega arith;
  few = omega arith;
  only = λ i h k. absurd (omega (arith, h, k));
}

module _ (old : List (List ℕ)) (u w : List ℕ) (mid : List (List ℕ)) (n at : ℕ) (e : IsEntering old u w mid n at) (inside : n < length w) where
  extended : (a : ℕ) → a ≡ get_or w n 0 → extension_of mid at a ≡ u ++ take (n + 1) w
  extended a is = rw (take_more w n 0 inside, get_or_from_slice_get mid at (u ++ take n w) [] e.here, is) (append_assoc u (take n w) (get_or w n 0 ∷ []))

  pub entering_more : (a : ℕ) → a ≡ get_or w n 0 → (new : List (List ℕ)) → Enters mid (extension_of mid at a) new → Keeps mid new → (i : ℕ) →
      slice_get new i ≡ Some (extension_of mid at a) → IsEntering old u w new (n + 1) i
  entering_more a is new enters keeps i there = record {
    here = there ∙ ap Some (extended a is);
    keeps = λ k v h. keeps k v (e.keeps k v h);
    more = elim enters as (λ _. length old ≤ length new) [
      | inl h ↦ omega (arith, ap (λ x. length x) h.1, e.more)
      | inr h ↦ omega (arith, ap (λ x. length x) h.1, length_push mid (extension_of mid at a), e.more)
    ];
    few = elim enters as (λ _. length new ≤ length old + (n + 1)) [
      | inl h ↦ omega (arith, ap (λ x. length x) h.1, e.few)
      | inr h ↦ omega (arith, ap (λ x. length x) h.1, length_push mid (extension_of mid at a), e.few)
    ];
    only = λ k low high. elim enters as (λ _. (j : ℕ) × ((j ≤ n + 1) × (word new k ≡ u ++ take j w))) [
      | inl h ↦
          let p = e.only k low (omega (arith, high, ap (λ x. length x) h.1)) in
          (p.0, (omega (arith, p.1.0), ap (λ x. word x k) h.1 ∙ p.1.1))
      | inr h ↦ elim (cases_lt k (length mid)) as (λ _. (j : ℕ) × ((j ≤ n + 1) × (word new k ≡ u ++ take j w))) [
        | inl less ↦
            let p = e.only k low less in
            (p.0, (omega (arith, p.1.0), ap (λ x. word x k) h.1 ∙ (get_or_append_left mid (extension_of mid at a ∷ []) [] k less ∙ p.1.1)))
        | inr more ↦
            let is' : length mid ≡ k = omega (arith, more, high, ap (λ x. length x) h.1, length_push mid (extension_of mid at a)) in
            (n + 1, (omega arith, ap (λ x. word x k) h.1 ∙ (get_or_push mid (extension_of mid at a) [] k is' ∙ extended a is)))
      ]
    ];
  }

pub entering_all : (old : List (List ℕ)) (u w : List ℕ) (new : List (List ℕ)) (n at : ℕ) → IsEntering old u w new n at → n ≤ length w → EntersAfter old u w new
entering_all old u w new n at e h = record {
  more = e.more;
  few = omega (arith, e.few, h);
  only = λ i low high. let p = e.only i low high in (p.0, (omega (arith, p.1.0, h), p.1.1));
}
