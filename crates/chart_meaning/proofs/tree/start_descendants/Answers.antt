use Rattle.chart_meaning.proofs.Climbing.{walking_down-start, walking_down-more, walking_down-end}
use Rattle.chart_meaning.proofs.tree.start_descendants.Goals as goal

pub loop-at-init : goal.loop-at-init
loop-at-init c = rw (c.new-way.ensures, c.start_child-at.ensures) (walking_down-start c.args.states.now c.args.state c.requires.inside)

pub loop-at-preserved : goal.loop-at-preserved
loop-at-preserved c =
    let walk = rw c.in-Some.is at c.loop-at.invariant in
    rw (c.push.ensures, c.start_child-at-in-Some.ensures) (walking_down-more c.args.states.now c.args.state c.loop-at.way c.in-Some.child c.requires.tree walk)

pub returns : goal.returns
returns c = walking_down-end c.args.states.now c.args.state c.loop-at.way (rw c.in_default.is at c.loop-at.invariant)
