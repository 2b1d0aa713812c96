-- The chains of rows: how one row more is put in front, and that a state's chain has all rows of it that fire.
use Rattle.std.proofs.Common.{◌≡◌, ℕ, ◌+◌, ◌<◌, ◌≤◌, ℤ, Bool, true, false, List, [], ◌∷◌, length, drop, set, get_or, replicate}
use Rattle.std.proofs.Common.{Some, None, slice_get, refl, sym, ap, ◌∙◌, subst, arith, inl, inr}
use Rattle.std.specs.Prelude.{if◌then◌else◌, ◌==◌, ◌&&◌}
use Rattle.std.specs.List.{All}
use Rattle.std.proofs.lemmas.Bool.{cases_eq, cases_lt, ne_eqb}
use Rattle.std.proofs.lemmas.Bool.Decides.{Decides-eqb}
use Rattle.std.proofs.lemmas.List.{get_or-set_same, get_or-set_other, get_or-replicate, get_or_read, length-set, drop_more}
use Rattle.std.proofs.lemmas.List.Elements.{All-head, All-tail}
use Rattle.std.proofs.lemmas.Option.{slice_get_within, slice_get_read, get_or_from_slice_get, same_Some}
use Rattle.impl_table.specs.declared.table.Row.{Row}
use Rattle.impl_table.specs.Firing.{holds, fires, first_row}
use Rattle.impl_table.specs.inside.Chains.{IsNextOf, AreChainedFrom, AreChained}

-- the rows from a place on begin with the row that stands there
pub front_row : (rows : List Row) (i : ℕ) (row : Row) → slice_get rows i ≡ Some row → drop i rows ≡ row ∷ drop (i + 1) rows
front_row rows i row e = drop_more rows i row (slice_get_within rows i row e) ∙ ap (λ x. x ∷ drop (i + 1) rows) (get_or_from_slice_get rows i row row e)

other_state : (state : ℕ) (row : Row) (vector : List ℤ) → (row.from ≡ state → ⊥) → fires state vector row ≡ false
other_state state row vector away = ap (λ b. b && holds row.guard vector) (ne_eqb row.from state away)

-- no row of another state fires
passed : (rows : List Row) (state i : ℕ) (row : Row) (vector : List ℤ) → slice_get rows i ≡ Some row → (row.from ≡ state → ⊥)
    → first_row (drop i rows) state vector ≡ first_row (drop (i + 1) rows) state vector
passed rows state i row vector e away =
    ap (λ l. first_row l state vector) (front_row rows i row e) ∙ ap (λ b. if b then Some row else first_row (drop (i + 1) rows) state vector)
    (other_state state row vector away)

no_row_past : (rows : List Row) (i : ℕ) (row : Row) → length rows ≤ i → slice_get rows i ≡ Some row → ⊥
no_row_past rows i row past e = let within = slice_get_within rows i row e in omega (arith, past, within)

-- the row of a state that stands at a place is the next from there
next_here : (rows : List Row) (i : ℕ) (row : Row) → slice_get rows i ≡ Some row → IsNextOf rows row.from i i
next_here rows i row e = record { same = λ v. refl; up = omega arith; of_state = λ other f. ap (λ (r : Row). r.from) (same_Some other row (sym f ∙ e)) }

-- and a row of another state is passed over
next_before : (rows : List Row) (state i j : ℕ) (row : Row) → slice_get rows i ≡ Some row → (row.from ≡ state → ⊥) → IsNextOf rows state (i + 1) j
    → IsNextOf rows state i j
next_before rows state i j row e away n = record {
  same = λ v. passed rows state i row v e away ∙ n.same v;
  up = (let h : i + 1 ≤ j = n.up in omega (arith, h));
  of_state = n.of_state;
}

-- behind all rows there is none
pub chained_at_end : (rows : List Row) (firsts nexts : List ℕ) → firsts ≡ replicate (length firsts) (length rows) → length nexts ≡ length rows
    → AreChainedFrom rows (length rows) firsts nexts
chained_at_end rows firsts nexts filled sizes = record {
  one_each = sizes;
  first = λ state inside.
      let e : get_or firsts state 0 ≡ length rows = ap (λ l. get_or l state 0) filled ∙ get_or-replicate (length firsts) state (length rows) 0 inside in
      subst (IsNextOf rows state (length rows)) (sym e)
      (record { same = λ v. refl; up = omega arith; of_state = λ row f. absurd (no_row_past rows (length rows) row (omega arith) f) });
  next = λ i row past f. absurd (no_row_past rows i row past f);
}

-- a row is put in front of the rows behind it
pub chained_before : (rows : List Row) (i : ℕ) (row : Row) (firsts nexts : List ℕ) → slice_get rows i ≡ Some row → row.from < length firsts
    → AreChainedFrom rows (i + 1) firsts nexts
    → AreChainedFrom rows i (set firsts row.from i) (set nexts i (get_or firsts row.from 0))
chained_before rows i row firsts nexts e inside c = record {
  one_each = length-set nexts i (get_or firsts row.from 0) ∙ c.one_each;
  first = λ state below. elim (cases_eq state row.from) as (λ _. IsNextOf rows state i (get_or (set firsts row.from i) state 0)) [
    | inl same ↦
        let here : IsNextOf rows row.from i (get_or (set firsts row.from i) row.from 0) =
        subst (IsNextOf rows row.from i) (sym (get_or-set_same firsts row.from i 0 inside)) (next_here rows i row e) in
        subst (λ s. IsNextOf rows s i (get_or (set firsts row.from i) s 0)) (sym same) here
    | inr other ↦
        subst (IsNextOf rows state i) (sym (get_or-set_other firsts row.from state i 0 other))
        (next_before rows state i (get_or firsts state 0) row e (λ h. other (sym h)) (c.first state (omega (arith, below, length-set firsts row.from i))))
  ];
  next = λ k r from f. elim (cases_eq k i) as (λ _. IsNextOf rows r.from (k + 1) (get_or (set nexts i (get_or firsts row.from 0)) k 0)) [
    | inl same ↦
        let within : i < length nexts = let w = slice_get_within rows i row e in let s : length nexts ≡ length rows = c.one_each in omega (arith, w, s) in
        let here : IsNextOf rows row.from (i + 1) (get_or (set nexts i (get_or firsts row.from 0)) i 0) =
        subst (IsNextOf rows row.from (i + 1)) (sym (get_or-set_same nexts i (get_or firsts row.from 0) 0 within)) (c.first row.from inside) in
        let one : r ≡ row = same_Some r row (sym f ∙ ap (slice_get rows) same ∙ e) in
        subst (λ (x : Row). IsNextOf rows x.from (k + 1) (get_or (set nexts i (get_or firsts row.from 0)) k 0)) (sym one)
        (subst (λ n. IsNextOf rows row.from (n + 1) (get_or (set nexts i (get_or firsts row.from 0)) n 0)) (sym same) here)
    | inr other ↦
        subst (IsNextOf rows r.from (k + 1)) (sym (get_or-set_other nexts i k (get_or firsts row.from 0) 0 other)) (c.next k r (later k other from) f)
  ];
}
  where
    later : (k : ℕ) → (k ≡ i → ⊥) → i ≤ k → i + 1 ≤ k
    later k other from = elim (cases_lt i k) as (λ _. i + 1 ≤ k) [ inl less ↦ omega (arith, less) | inr more ↦ absurd (other (omega (arith, from, more))) ]

-- a state past all rows' states has no row
pub none_past : (rows : List Row) (states state : ℕ) (vector : List ℤ) → All (λ (row : Row). row.from < states) rows → states ≤ state
    → first_row rows state vector ≡ None
none_past [] states state vector all past = refl
none_past (row ∷ rows) states state vector all past =
    let P : Row → Type 0 = λ (row : Row). row.from < states in
    let below : row.from < states = All-head P row rows all in
    ap (λ b. if b then Some row else first_row rows state vector) (other_state state row vector (λ e. omega (arith, e, below, past)))
    ∙ none_past rows states state vector (All-tail P row rows all) past

pub all_chained : (rows : List Row) (states : ℕ) (firsts nexts : List ℕ) → All (λ (row : Row). row.from < states) rows → length firsts ≡ states
    → AreChainedFrom rows 0 firsts nexts → AreChained rows firsts nexts
all_chained rows states firsts nexts all size c =
    record { chains = c; no_other = λ state vector past. none_past rows states state vector all (omega (arith, size, past)) }

-- from a row of the state that does not hold, the search goes on at the next
goes_on : (rows : List Row) (state at next : ℕ) (row : Row) (vector : List ℤ) → slice_get rows at ≡ Some row → row.from ≡ state
    → IsNextOf rows row.from (at + 1) next → holds row.guard vector ≡ false
    → first_row (drop at rows) state vector ≡ first_row (drop next rows) state vector
goes_on rows state at next row vector e of n shut =
    ap (λ l. first_row l state vector) (front_row rows at row e) ∙ ap (λ b. if b then Some row else first_row (drop (at + 1) rows) state vector)
    (closed (row.from == state) (holds row.guard vector) shut)
    ∙ subst (λ s. first_row (drop (at + 1) rows) s vector ≡ first_row (drop next rows) s vector) of (n.same vector)
  where
    closed : (a b : Bool) → b ≡ false → (a && b) ≡ false
    closed true b f = f
    closed false b f = refl

-- a row of the state that holds is found
found_here : (rows : List Row) (state at : ℕ) (row : Row) (vector : List ℤ) → slice_get rows at ≡ Some row → row.from ≡ state
    → holds row.guard vector ≡ true → first_row (drop at rows) state vector ≡ Some row
found_here rows state at row vector e of held =
    ap (λ l. first_row l state vector) (front_row rows at row e) ∙ ap (λ b. if b then Some row else first_row (drop (at + 1) rows) state vector)
    (ap (λ s. s == state && holds row.guard vector) of ∙ (λ i. same i && held i))
  where
    same : (state == state) ≡ true
    same = (Decides-eqb state state).1 refl

-- a row that was read, which the search has reached
module _ (seen rows : List Row) (firsts nexts : List ℕ) (state at : ℕ) (row : Row) (vector : List ℤ) (same : seen ≡ rows)
    (inside : at < length seen) (read : row ≡ get_or seen at row)
    (of_state : (r : Row) → slice_get rows at ≡ Some r → r.from ≡ state) (rest : first_row (drop at rows) state vector ≡ first_row rows state vector) where
  row_there : slice_get rows at ≡ Some row
  row_there = ap (λ l. slice_get l at) (sym same) ∙ slice_get_read seen (length seen) at row refl inside read

  pub search_ends : holds row.guard vector ≡ true → Some row ≡ first_row rows state vector
  search_ends held = sym (found_here rows state at row vector row_there (of_state row row_there) held) ∙ rest

  -- the number of the next row, as it was read
  module _ (next : ℕ) (c : AreChained rows firsts nexts) (is : next ≡ get_or nexts at next) where
    next_row : IsNextOf rows row.from (at + 1) next
    next_row =
        let within = slice_get_within rows at row row_there in
        let sizes : length nexts ≡ length rows = c.chains.one_each in
        subst (IsNextOf rows row.from (at + 1)) (sym (get_or_read nexts at next (omega (arith, within, sizes)) is 0))
        (c.chains.next at row (omega arith) row_there)

    pub search_goes_on : holds row.guard vector ≡ false → first_row (drop next rows) state vector ≡ first_row rows state vector
    search_goes_on shut = sym (goes_on rows state at next row vector row_there (of_state row row_there) next_row shut) ∙ rest

    pub next_of_state : (r : Row) → slice_get rows next ≡ Some r → r.from ≡ state
    next_of_state r f = next_row.of_state r f ∙ of_state row row_there

    pub next_behind : at < next
    next_behind = let up : at + 1 ≤ next = next_row.up in omega (arith, up)
