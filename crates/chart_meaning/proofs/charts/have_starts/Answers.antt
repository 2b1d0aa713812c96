use Rattle.std.proofs.Common.{◌≡◌, subst}
use Rattle.std.specs.Prelude.{count_by}
use Rattle.std.specs.Option.{ForSome}
use Rattle.std.specs.List.{All}
use Rattle.std.proofs.lemmas.List.{take_all}
use Rattle.std.proofs.lemmas.List.Elements.{All-more}
use Rattle.chart_model.specs.declared.state.State.{State}
use Rattle.chart_model.specs.States.{is_start_child_of}
use Rattle.chart_meaning.proofs.charts.have_starts.Goals as goal

pub loop-child-preserved : goal.loop-child-preserved
loop-child-preserved c =
    let P : State → Type 0 = λ child. ForSome child.parent (λ parent. count_by (is_start_child_of parent) c.args.states.now ≡ 1) in
    All-more P c.args.states.now c.loop-child.child-index c.child-item.result c.loop-child-test.true
    c.loop-child.invariant (subst P c.child-item.is (c.has_start.ensures c.if-not-has_start.false))

pub returns : goal.returns
returns c =
    let P : State → Type 0 = λ child. ForSome child.parent (λ parent. count_by (is_start_child_of parent) c.args.states.now ≡ 1) in
    λ _. subst (All P) (take_all c.loop-child.child-index c.args.states.now c.loop-child-test.false) c.loop-child.invariant
