-- The rows of a table that fire: those of a state whose guard holds.
use Rattle.std.specs.Prelude.{ℕ, ℤ, pos, Bool, true, ◌&&◌, if◌then◌else◌, ◌==◌, List, [], ◌∷◌, replicate}
use Rattle.std.specs.Prelude.{Option, Some, None}
use Rattle.lin_form.specs.declared.form.Comparison.{Comparison}
use Rattle.lin_form.specs.Trees.{Tree}
use Rattle.chart_model.specs.Guard.{truth_of_guard}
use Rattle.impl_table.specs.declared.table.Row.{Row}

-- a row without a guard always holds; a guard knows no memories
abbrev pub holds : Option (Tree Comparison) → List ℤ → Bool
holds None vector = true
holds (Some guard) vector = truth_of_guard guard vector (replicate 4 (pos 0))

-- a row of this state that holds
abbrev pub fires : ℕ → List ℤ → Row → Bool
fires state vector row = row.from == state && holds row.guard vector

-- the first row of a state that holds, in written order
abbrev pub first_row : List Row → ℕ → List ℤ → Option Row
first_row [] state vector = None
first_row (row ∷ rows) state vector = if fires state vector row then Some row else first_row rows state vector
