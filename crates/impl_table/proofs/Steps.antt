-- The rows of a table can be read on the vectors of its inputs, and lead to its states.
use Rattle.std.proofs.Common.{◌≡◌, ℕ, ◌<◌, ℤ, Bool, true, false, List, [], ◌∷◌, Option, Some, subst}
use Rattle.std.specs.Prelude.{if◌then◌else◌}
use Rattle.std.specs.List.{All}
use Rattle.std.proofs.lemmas.List.Elements.{All-head, All-tail, All-weaker}
use Rattle.chart_model.specs.Guard.{IsReadableGuard}
use Rattle.chart_model.proofs.GuardLemmas.{readable_guard}
use Rattle.impl_table.specs.declared.table.Row.{Row}
use Rattle.impl_table.specs.Table.{IsRow}
use Rattle.impl_table.specs.Firing.{fires, first_row}
use Rattle.impl_table.specs.inside.Lines.{IsReadableRow}

pub readable_rows : (inputs outputs states numbers : ℕ) (rows : List Row) → inputs ≡ numbers → All (IsRow inputs outputs states) rows
    → All (IsReadableRow numbers) rows
readable_rows inputs outputs states numbers rows e all =
    All-weaker (IsRow inputs outputs states) (IsReadableRow numbers)
    (λ row is. λ guard same. subst (λ n. IsReadableGuard n guard) e (readable_guard inputs 0 guard (is.guard guard same))) rows all

first_if : (P : Row → Type 0) (b : Bool) (row found : Row) (rest : Option Row) → P row → (rest ≡ Some found → P found)
    → (if b then Some row else rest) ≡ Some found → P found
first_if P true row found rest is later e = let same : row ≡ found = cc in subst P same is
first_if P false row found rest is later e = later e

-- what holds of every row holds of the first that fires
pub first_keeps : (P : Row → Type 0) (rows : List Row) (state : ℕ) (vector : List ℤ) (found : Row) → All P rows
    → first_row rows state vector ≡ Some found → P found
first_keeps P [] state vector found all e = absurd (cc)
first_keeps P (row ∷ rows) state vector found all e =
    first_if P (fires state vector row) row found (first_row rows state vector) (All-head P row rows all)
    (first_keeps P rows state vector found (All-tail P row rows all)) e

pub row_to : (inputs outputs states : ℕ) (rows : List Row) → All (IsRow inputs outputs states) rows → All (λ (row : Row). row.to < states) rows
row_to inputs outputs states rows all = All-weaker (IsRow inputs outputs states) (λ (row : Row). row.to < states) (λ row is. is.to) rows all
