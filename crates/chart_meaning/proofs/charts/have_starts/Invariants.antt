use Rattle.std.proofs.Common.{◌≡◌, take}
use Rattle.std.specs.Prelude.{count_by}
use Rattle.std.specs.List.{All}
use Rattle.std.specs.Option.{ForSome}
use Rattle.chart_model.specs.declared.state.State.{State}
use Rattle.chart_model.specs.States.{is_start_child_of}
use Rattle.chart_meaning.proofs.charts.have_starts.Given as goal

abbrev pub invariant-loop-child : goal.invariant-loop-child
invariant-loop-child l =
    All (λ (child : State). ForSome child.parent (λ parent. count_by (is_start_child_of parent) l.states ≡ 1))
    (take l.child-index l.states)
