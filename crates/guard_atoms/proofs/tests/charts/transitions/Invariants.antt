use Rattle.std.proofs.Common.{◌≡◌, length}
use Rattle.std.specs.List.{All}
use Rattle.chart_model.specs.Chart.{IsTransition}
use Rattle.guard_atoms.proofs.tests.charts.transitions.Given as goal

abbrev pub invariant-loop-test : goal.invariant-loop-test
invariant-loop-test g l = All (IsTransition 3 1 1 l.states) l.transitions × (length l.transitions ≡ l.test-index)
