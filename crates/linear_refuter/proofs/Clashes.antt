-- Two literals with opposite coefficients have the same sum on every vector.
use Rattle.std.proofs.Common.{◌≡◌, ℕ, zero, suc, ◌<◌, ℤ, pos, ◌+ℤ◌, ◌*ℤ◌, ◌≤ℤ◌, ◌<ℤ◌, List, [], ◌∷◌, length, ap, arith, inl, inr}
use Rattle.std.specs.Prelude.{Option, None, Some, slice_get}
use Rattle.std.specs.List.{AllByRecursion}
use Rattle.std.proofs.lemmas.Int.{ints, by_lt_z}
use Rattle.std.proofs.lemmas.List.Elements.{recursion_from_All, All-from_recursion}
use Rattle.lin_form.specs.Form.{sum_of_products}
use Rattle.lin_form.specs.Range.{AreRanges, IsRange, IsInRanges}
use Rattle.input_classes.specs.Order.{IsAtMost}
use Rattle.lin_form.specs.declared.literal.Literal.{Literal}
use Rattle.lin_form.specs.Atom.{AreAsSaid}
use Rattle.linear_refuter.specs.Sum.{IsRefutingSum, constraint_at, coefficients_of, once}
use Rattle.linear_refuter.specs.inside.Greatest.{offset_at}
use Rattle.linear_refuter.specs.Refutation.{IsOpposite, NoPair}
use Rattle.linear_refuter.specs.inside.Decision.{AddToZero, AddBelowZero, IsClash, NoClash}
use Rattle.linear_refuter.specs.TightPart.{lows}
use Rattle.linear_refuter.proofs.Said.{said_at, sum_turned}

pub lows_in : (rs : List (ℤ × ℤ)) → AllByRecursion (λ r. IsRange r.0 r.1) rs → IsInRanges rs (lows rs)
lows_in [] h = tt
lows_in (r ∷ rs) h = ((omega (arith, ints), h.0.ordered), lows_in rs h.1)

opposite_total : (o p : Option Literal) (xs : List ℤ) → IsOpposite o p → (pos 1 *ℤ constraint_at o xs) +ℤ ((pos 1 *ℤ constraint_at p xs) +ℤ pos 0) ≡ offset_at o +ℤ offset_at p
opposite_total None p xs h = absurd h
opposite_total (Some a) None xs h = absurd h
opposite_total (Some a) (Some b) xs h =
    let e = ap (λ t. sum_of_products t xs) h in
    let n = sum_turned (coefficients_of b) xs in
    omega (arith, ints)

to_zero : (o p : Option Literal) → IsOpposite o p → AddToZero o p → pos 0 ≤ℤ (offset_at o +ℤ offset_at p)
to_zero None p h k = absurd h
to_zero (Some a) None h k = absurd h
to_zero (Some a) (Some b) h k = k

below_zero : (o p : Option Literal) → IsOpposite o p → AddBelowZero o p → (offset_at o +ℤ offset_at p) <ℤ pos 0
below_zero None p h k = absurd h
below_zero (Some a) None h k = absurd h
below_zero (Some a) (Some b) h k = k

opposite_first : (ls : List Literal) (i : ℕ) (p : Option Literal) → IsOpposite (slice_get ls i) p → i < length ls
opposite_first [] i p h = absurd h
opposite_first (l ∷ ls) zero p h = omega arith
opposite_first (l ∷ ls) (suc i) p h = let k = opposite_first ls i p h in omega arith

no_opposite : (o : Option Literal) → IsOpposite o None → ⊥
no_opposite None h = h
no_opposite (Some l) h = h

pub opposite_second : (ls : List Literal) (i : ℕ) (o : Option Literal) → IsOpposite o (slice_get ls i) → i < length ls
opposite_second [] i o h = absurd (no_opposite o h)
opposite_second (l ∷ ls) zero o h = omega arith
opposite_second (l ∷ ls) (suc i) o h = let k = opposite_second ls i o h in omega arith

-- literals whose constants do not clash are refuted by no such two, on any box
pub NoPair-from_clash : (ls : List Literal) (rs : List (ℤ × ℤ)) → AreRanges rs → NoClash ls → NoPair ls rs
NoPair-from_clash ls rs ranged clear i j h o s =
    let x = lows rs in
    let n = s.negative x (lows_in rs (recursion_from_All _ rs ranged.each)) in
    let t = opposite_total (slice_get ls i) (slice_get ls j) x o in
    let z = to_zero (slice_get ls i) (slice_get ls j) o (clear i j h o) in
    absurd (omega (arith, ints))

-- and two that clash refute every box
pub IsRefutingSum-clash : (ls : List Literal) (i j : ℕ) → IsClash ls i j → (rs : List (ℤ × ℤ)) → IsRefutingSum ls rs (once i ∷ once j ∷ [])
IsRefutingSum-clash ls i j c rs = record {
  short = omega arith;
  known = All-from_recursion (λ w. w.literal < length ls) (once i ∷ once j ∷ []) (opposite_first ls i (slice_get ls j) c.1, (opposite_second ls j (slice_get ls i) c.1, tt));
  negative = λ xs _.
      let t = opposite_total (slice_get ls i) (slice_get ls j) xs c.1 in
      let z = below_zero (slice_get ls i) (slice_get ls j) c.1 c.2 in
      omega (arith, ints);
}

from_zero : (o p : Option Literal) → IsOpposite o p → pos 0 ≤ℤ (offset_at o +ℤ offset_at p) → AddToZero o p
from_zero None p h k = absurd h
from_zero (Some a) None h k = absurd h
from_zero (Some a) (Some b) h k = k

-- where all are as said on one vector, no two clash
pub NoClash-said : (ls : List Literal) (xs : List ℤ) → AreAsSaid ls xs → NoClash ls
NoClash-said ls xs s i j h o =
    let r = recursion_from_All _ ls s in
    let a = said_at ls xs i r in
    let b = said_at ls xs j r in
    let t = opposite_total (slice_get ls i) (slice_get ls j) xs o in
    from_zero (slice_get ls i) (slice_get ls j) o (omega (arith, ints))

-- the least vector of a box comes before every other
pub lows_at_most : (rs : List (ℤ × ℤ)) (xs : List ℤ) → IsInRanges rs xs → IsAtMost (lows rs) xs
lows_at_most [] xs h = tt
lows_at_most (r ∷ rs) [] h = absurd h
lows_at_most (r ∷ rs) (x ∷ xs) h = by_lt_z r.0 x (λ l. inl l) (λ l. inr (omega (arith, ints, h.0.0, l), lows_at_most rs xs h.1))
