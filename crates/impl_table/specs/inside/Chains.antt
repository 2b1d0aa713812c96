-- The rows of each state in a chain: the number of the first, and from each row that of the next.
use Rattle.std.specs.Prelude.{◌≡◌, ℕ, ◌+◌, ◌<◌, ◌≤◌, ℤ, List, length, drop, slice_get, slice_index_or, Some, None}
use Rattle.impl_table.specs.declared.table.Row.{Row}
use Rattle.impl_table.specs.Firing.{first_row}

-- `next` is the number of a row of the state, or the end of the rows: of the state's rows, the first that holds among
-- those from `from` on is the first that holds among those from `next` on
pub record IsNextOf (rows : List Row) (state from next : ℕ) : Type 0 where
  pub same : (vector : List ℤ) → first_row (drop from rows) state vector ≡ first_row (drop next rows) state vector
  pub up : from ≤ next
  pub of_state : (row : Row) → slice_get rows next ≡ Some row → row.from ≡ state

-- the rows from `at` on are in chains: `firsts` has the first of each state among them, and `nexts` the next of each
pub record AreChainedFrom (rows : List Row) (at : ℕ) (firsts nexts : List ℕ) : Type 0 where
  pub one_each : length nexts ≡ length rows
  pub first : (state : ℕ) → state < length firsts → IsNextOf rows state at (slice_index_or firsts state 0)
  pub next : (i : ℕ) (row : Row) → at ≤ i → slice_get rows i ≡ Some row →
      IsNextOf rows row.from (i + 1) (slice_index_or nexts i 0)

-- all rows are in chains, and a state that has none has no row
pub record AreChained (rows : List Row) (firsts nexts : List ℕ) : Type 0 where
  pub chains : AreChainedFrom rows 0 firsts nexts
  pub no_other : (state : ℕ) (vector : List ℤ) → length firsts ≤ state → first_row rows state vector ≡ None
