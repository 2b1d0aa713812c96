use Rattle.std.proofs.Common.{◌≡◌, length}
use Rattle.std.specs.List.{All}
use Rattle.chart_model.specs.Chart.{IsTransition}
use Rattle.chart_meaning.proofs.charts.transitions.Given as goal

abbrev pub invariant-loop-row : goal.invariant-loop-row
invariant-loop-row g l = All (IsTransition 2 1 2 l.states) l.transitions × (length l.transitions ≡ l.row-index)
