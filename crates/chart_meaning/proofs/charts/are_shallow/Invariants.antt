use Rattle.std.proofs.Common.{◌≡◌, ℕ, ◌<◌, true}
use Rattle.chart_model.specs.States.{is_within_depth}
use Rattle.chart_meaning.proofs.charts.are_shallow.Given as goal

abbrev pub invariant-loop-state : goal.invariant-loop-state
invariant-loop-state l = (s : ℕ) → s < l.state → is_within_depth 8 l.states s ≡ true
