use Rattle.std.specs.List.{All}
use Rattle.chart_model.specs.Chart.{IsAction}
use Rattle.chart_meaning.proofs.charts.actions.Given as goal

abbrev pub invariant-loop-row : goal.invariant-loop-row
invariant-loop-row g l = All (IsAction 2 1 2) l.actions
