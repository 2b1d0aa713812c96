use Rattle.std.proofs.Common.{◌≡◌, ◌-◌, length, drop, slice_get, Some}
use Rattle.impl_table.specs.declared.table.Row.{Row}
use Rattle.impl_table.specs.Firing.{first_row}
use Rattle.impl_table.proofs.table_rows.TableRows.first_enabled.Given as goal

-- a row of the state is next, and the search goes on from it
abbrev pub invariant-rows : goal.invariant-rows
invariant-rows l = record {
  rest : first_row (drop l.at l.self) l.state l.vector ≡ first_row l.self l.state l.vector;
  of_state : (row : Row) → slice_get l.self l.at ≡ Some row → row.from ≡ l.state;
}

abbrev pub decreases-rows : goal.decreases-rows
decreases-rows l = length l.self - l.at
