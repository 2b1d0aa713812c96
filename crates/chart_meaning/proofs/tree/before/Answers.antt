use Rattle.chart_meaning.proofs.Climbing.{IsTakenBefore-start, IsTakenBefore-more}
use Rattle.chart_meaning.proofs.tree.before.Goals as goal

pub loop-state-init : goal.loop-state-init
loop-state-init c = IsTakenBefore-start c.args.container c.args.way.now c.as_slice-state-items.result.now
    c.new-below.result c.as_slice-state-items.ensures.value c.new-below.ensures

pub loop-state-preserved : goal.loop-state-preserved
loop-state-preserved c =
    rw c.push.ensures (IsTakenBefore-more c.args.container c.args.way.now c.as_slice-state-items.result.now
    c.loop-state.state-index c.loop-state.below c.loop-state-test.true c.if-state-container.false
    c.loop-state.invariant)
