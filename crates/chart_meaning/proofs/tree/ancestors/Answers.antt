use Rattle.std.proofs.Common.{refl}
use Rattle.std.proofs.lemmas.Option.{slice_get-get_or}
use Rattle.chart_meaning.proofs.Climbing.{parent_read, walking_out-start, walking_out-more, walking_out-end, ancestors-some}
use Rattle.chart_meaning.proofs.tree.ancestors.Goals as goal

pub loop-at-init : goal.loop-at-init
loop-at-init c = rw c.new-way.ensures (walking_out-start c.args.states.now c.args.state c.requires.tree c.requires.inside)

pub loop-at-preserved : goal.loop-at-preserved
loop-at-preserved c =
    let walk = rw c.in-Some.is at c.loop-at.invariant in
    let found = slice_get-get_or c.args.states.now c.in-Some.inner c.index-states-inner.result (walk.inside c.in-Some.inner refl) in
    rw (c.push.ensures, ← parent_read c.args.states.now c.in-Some.inner _ found)
    (walking_out-more c.args.states.now c.args.state c.loop-at.way c.in-Some.inner c.requires.tree walk)

pub returns-clause-some : goal.returns-clause-some
returns-clause-some c =
    rw (walking_out-end c.args.states.now c.args.state c.loop-at.way (rw c.in_default.is at c.loop-at.invariant))
    (ancestors-some c.args.states.now c.args.state)

pub returns-clause-way : goal.returns-clause-way
returns-clause-way c = walking_out-end c.args.states.now c.args.state c.loop-at.way (rw c.in_default.is at c.loop-at.invariant)
