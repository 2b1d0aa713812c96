use Rattle.std.proofs.Common.{◌≡◌, ◌≤◌, take}
use Rattle.std.specs.Prelude.{count_by}
use Rattle.chart_model.specs.States.{is_top_start}
use Rattle.chart_meaning.proofs.charts.count_top_starts.Given as goal

abbrev pub invariant-loop-state : goal.invariant-loop-state
invariant-loop-state l = (l.count ≡ count_by is_top_start (take l.state-index l.states)) × (l.count ≤ l.state-index)
