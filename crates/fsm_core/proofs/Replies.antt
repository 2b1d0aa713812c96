-- Whether two replies of a list are the same.
use Rattle.std.proofs.Common.{◌≡◌, ℕ, ℤ, ◌+◌, ◌<◌, true, false, List, [], length, take, get_or, ap, sym, ◌∙◌, inl, inr, arith}
use Rattle.std.proofs.lemmas.Bool.{both_ways, cases_lt}
use Rattle.std.proofs.lemmas.List.{get_or-take, get_or_read, length-take-le}
use Rattle.std.specs.Cmp.Lexicographic.{pointwise}
use Rattle.std.specs.Cmp.Rules.{signed_items}
use Rattle.std.specs.Ordering.{int_eq}
use Rattle.std.specs.List.{AllWithin, HoldsAt}
use Rattle.lin_form.specs.Same.{same_numbers}
use Rattle.fsm_core.specs.Machine.{reply_at, AreDifferent}

-- no reply stands twice among the first n
abbrev pub AreDifferentBelow : List (List ℤ) → ℕ → Type 0
AreDifferentBelow replies n = (i j : ℕ) → i < n → j < n → reply_at replies i ≡ reply_at replies j → i ≡ j

module _ (replies : List (List ℤ)) (n : ℕ) (reply : List ℤ) (inside : n < length replies) (read : reply ≡ get_or replies n reply) where
  -- a reply that stands before the place n too
  pub found_again : (k : ℕ) → k < length (take n replies) → HoldsAt (λ y. pointwise int_eq y reply ≡ true) (take n replies) k → AreDifferent replies → ⊥
  found_again k hk h different =
      let low : k < n = omega (arith, hk, length-take-le n replies (omega arith)) in
      let same : get_or (take n replies) k [] ≡ reply = same_numbers (get_or (take n replies) k []) reply (h []) in
      let e : k ≡ n = different k n (omega arith) inside (sym (get_or-take n replies k [] low) ∙ (same ∙ get_or_read replies n reply inside read [])) in
      omega arith

  -- a reply that stands at no place before n
  pub others_differ : AllWithin (λ y. pointwise int_eq y reply ≡ false) (take n replies) 0 (length (take n replies)) →
      (k : ℕ) → k < n → reply_at replies k ≡ reply_at replies n → ⊥
  others_differ h k hk e =
      let size : length (take n replies) ≡ n = length-take-le n replies (omega arith) in
      let differ = h k [] (omega arith) (omega arith) in
      both_ways (pointwise int_eq (get_or (take n replies) k []) reply) differ
      ((signed_items (get_or (take n replies) k []) reply).1
      (get_or-take n replies k [] hk ∙ (e ∙ sym (get_or_read replies n reply inside read []))))

  pub different_more : AreDifferentBelow replies n → AllWithin (λ y. pointwise int_eq y reply ≡ false) (take n replies) 0 (length (take n replies)) →
      AreDifferentBelow replies (n + 1)
  different_more d h i j hi hj e = elim (cases_lt i n) as (λ _. i ≡ j) [
    | inl low ↦ elim (cases_lt j n) as (λ _. i ≡ j) [
      | inl low' ↦ d i j low low' e
      | inr high ↦ let at : j ≡ n = omega (arith, high) in absurd (others_differ h i low (e ∙ ap (reply_at replies) at))
    ]
    | inr high ↦ let at : i ≡ n = omega (arith, high) in elim (cases_lt j n) as (λ _. i ≡ j) [
      | inl low ↦ absurd (others_differ h j low (sym e ∙ ap (reply_at replies) at))
      | inr high' ↦ omega (arith, high', at)
    ]
  ]
