use Rattle.std.proofs.Common.{◌≡◌, ℕ, ◌<◌, Some}
use Rattle.std.specs.Prelude.{slice_get}
use Rattle.std.specs.Option.{ForSome}
use Rattle.chart_model.specs.declared.state.State.{State}
use Rattle.chart_meaning.proofs.charts.are_parents_first.Given as goal

abbrev pub invariant-loop-number : goal.invariant-loop-number
invariant-loop-number l = (s : ℕ) (state : State) → s < l.number → slice_get l.states s ≡ Some state → ForSome state.parent (λ parent. parent < s)
