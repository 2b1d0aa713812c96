-- The first state of each block, and the rows and replies of the machine whose states are the blocks.
use Rattle.std.proofs.Common.{◌≡◌, ℕ, ℤ, ◌+◌, ◌*◌, ◌/◌, ◌%◌, ◌<◌, ◌≤◌, List, [], ◌∷◌, ◌++◌, length, get_or, take}
use Rattle.std.proofs.Common.{slice_get, Some, refl, ap, sym, ◌∙◌, inl, inr, arith}
use Rattle.std.proofs.lemmas.Bool.{cases_lt}
use Rattle.std.proofs.lemmas.List.{get_or_append_left, get_or_push, length_push, take_more}
use Rattle.std.proofs.lemmas.Nat.{div-mul-add, mod-mul-add, mul-add-lt}
use Rattle.std.proofs.lemmas.Option.{get_or_from_slice_get, slice_get_within}
use Rattle.fsm_core.specs.Machine.{Machine, next, number}
use Rattle.reduction.specs.Blocks.{AreInOrder}
use Rattle.reduction.specs.Quotient.{AreRepresentatives, AreRowsOf}

-- what holds of each place of a list and of one more
each_pushed : {X : Type 0} (P : ℕ → X → Type 0) (xs : List X) (x d : X) → ((i : ℕ) → i < length xs → P i (get_or xs i d)) → P (length xs) x →
    (i : ℕ) → i < length (xs ++ x ∷ []) → P i (get_or (xs ++ x ∷ []) i d)
each_pushed P xs x d before here i h = elim (cases_lt i (length xs)) as (λ _. P i (get_or (xs ++ x ∷ []) i d)) [
  | inl low ↦ rw (get_or_append_left xs (x ∷ []) d i low) (before i low)
  | inr high ↦
      let e : i ≡ length xs = omega (arith, high, h, length_push xs x) in
      rw (e, get_or_push xs x d (length xs) refl) here
]

-- `found` has the first state of each block that has a state below `at`
pub record IsPicked (blocks found : List ℕ) (at : ℕ) : Type 0 where
  pub few : length found ≤ at
  pub inside : (i : ℕ) → i < length found → get_or found i 0 < at
  pub own : (i : ℕ) → i < length found → get_or blocks (get_or found i 0) 0 ≡ i
  pub each : (s : ℕ) → s < at → get_or blocks s 0 < length found

module _ (blocks : List ℕ) (ordered : AreInOrder blocks) (found : List ℕ) (at : ℕ) (p : IsPicked blocks found at) (inside : at < length blocks) where
  each_more : (n : ℕ) → length found ≤ n → get_or blocks at 0 < n → (s : ℕ) → s < at + 1 → get_or blocks s 0 < n
  each_more n h here s hs = elim (cases_lt s at) as (λ _. get_or blocks s 0 < n) [
    | inl low ↦ omega (arith, p.each s low, h)
    | inr high ↦ let e : s ≡ at = omega (arith, high, hs) in rw (e) here
  ]

  -- the state is the first of its block
  pub pick_new : get_or blocks at 0 ≡ length found → (found' : List ℕ) → found' ≡ found ++ at ∷ [] → IsPicked blocks found' (at + 1)
  pick_new e found' grown = rw (grown) record {
    few = omega (arith, p.few, length_push found at);
    inside = each_pushed (λ i x. x < at + 1) found at 0 (λ i h. omega (arith, p.inside i h)) (omega arith);
    own = each_pushed (λ i x. get_or blocks x 0 ≡ i) found at 0 p.own e;
    each = each_more (length (found ++ at ∷ [])) (omega (arith, length_push found at)) (omega (arith, e, length_push found at));
  }

  -- its block has an earlier state
  pub pick_none : (get_or blocks at 0 ≡ length found → ⊥) → (found' : List ℕ) → found' ≡ found → IsPicked blocks found' (at + 1)
  pick_none differ found' same = rw (same) record {
    few = omega (arith, p.few);
    inside = λ i h. omega (arith, p.inside i h);
    own = p.own;
    each = each_more (length found) (omega arith) (omega (arith, differ, ordered at (length found) inside p.each));
  }

pub picked_all : (blocks found : List ℕ) (at : ℕ) → IsPicked blocks found at → at ≡ length blocks → AreRepresentatives blocks found
picked_all blocks found at p end = record {
  few = omega (arith, p.few, end);
  inside = λ i h. omega (arith, p.inside i h, end);
  own = p.own;
  each = λ s h. p.each s (omega (arith, h, end));
}

-- the row at a place of the machine whose states are the blocks
abbrev pub row_of : Machine → List ℕ → List ℕ → ℕ → ℕ × ℕ
row_of m blocks representatives place =
    let state = get_or representatives (place / m.letters) 0 in
    (get_or blocks (next m state (place % m.letters)) 0, number m state (place % m.letters))

-- the rows below the place `at`
pub record AreRowsBelow (m : Machine) (blocks representatives : List ℕ) (rows : List (ℕ × ℕ)) (at : ℕ) : Type 0 where
  pub size : length rows ≡ at
  pub row : (place : ℕ) → place < length rows → get_or rows place (0, 0) ≡ row_of m blocks representatives place

pub rows_more : (m : Machine) (blocks representatives : List ℕ) (rows : List (ℕ × ℕ)) (at : ℕ) → AreRowsBelow m blocks representatives rows at →
    (r : ℕ × ℕ) → r ≡ row_of m blocks representatives at → (rows' : List (ℕ × ℕ)) → rows' ≡ rows ++ r ∷ [] →
    AreRowsBelow m blocks representatives rows' (at + 1)
rows_more m blocks representatives rows at h r e rows' grown = rw (grown) record {
  size = length_push rows r ∙ ap (λ n. n + 1) h.size;
  row = each_pushed (λ place x. x ≡ row_of m blocks representatives place) rows r (0, 0) h.row (e ∙ ap (row_of m blocks representatives) (sym h.size));
}

pub rows_all : (m : Machine) (blocks representatives : List ℕ) (rows : List (ℕ × ℕ)) (at : ℕ) → AreRowsBelow m blocks representatives rows at →
    at ≡ length representatives * m.letters → AreRowsOf m blocks representatives rows
rows_all m blocks representatives rows at h end = record {
  size = h.size ∙ end;
  row = λ i a hi ha.
      let low = mul-add-lt i m.letters a (length representatives) hi ha in
      rw (h.row (i * m.letters + a) (omega (arith, h.size, end, low)), div-mul-add i m.letters a ha, mod-mul-add i m.letters a ha) refl;
}

pub reply_more : (replies found : List (List ℤ)) (n : ℕ) (r : List ℤ) → found ≡ take n replies →
    slice_get replies n ≡ Some r → found ++ r ∷ [] ≡ take (n + 1) replies
reply_more replies found n r e h =
    rw (e, take_more replies n [] (slice_get_within replies n r h), get_or_from_slice_get replies n r [] h) refl
