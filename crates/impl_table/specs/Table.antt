-- What every table keeps.
use Rattle.std.specs.Prelude.{◌≡◌, ℕ, ◌<◌, ◌≤◌, List, length}
use Rattle.std.specs.List.{All}
use Rattle.std.specs.Option.{ForSome}
use Rattle.lin_form.specs.declared.signature.Signature.{Signature}
use Rattle.lin_form.specs.Range.{IsCount}
use Rattle.chart_model.specs.Chart.{IsGuard}
use Rattle.impl_table.specs.declared.table.TableState.{TableState}
use Rattle.impl_table.specs.declared.table.Row.{Row}

-- a row leads from a state to a state, its reply has a number per output, and its guard is over the inputs alone
pub record IsRow (inputs outputs states : ℕ) (row : Row) : Type 0 where
  pub from : row.from < states
  pub to : row.to < states
  pub reply : length row.reply ≡ outputs
  pub guard : ForSome row.guard (IsGuard inputs 0)

-- the counts are within the limits, there is a state, and all states and rows fit the signature
pub record IsTable (signature : Signature) (states : List TableState) (rows : List Row) : Type 0 where
  pub few_states : IsCount 1024 (length states)
  pub few_rows : length rows ≤ 4096
  pub replies : All (λ state. length state.reply ≡ length signature.outputs) states
  pub moves : All (IsRow (length signature.inputs) (length signature.outputs) (length states)) rows
