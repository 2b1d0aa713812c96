use Rattle.charset.specs.inside.Levels.{AreAlikeBy, IsLeader}
use Rattle.charset.proofs.Grouping.{grouping_more}
use Rattle.charset.proofs.Marking.{by_chain, by_flip, by_itself}
use Rattle.charset.proofs.groups.split_by.Goals as goal

pub loop-place-preserved : goal.loop-place-preserved
loop-place-preserved c =
    let m = c.args.fsm.now in
    let qs = c.args.states.now in
    let old = c.args.names.now in
    let w = c.args.word.now in
    let leads : IsLeader c.loop-place.finer.items (AreAlikeBy m qs old w) c.loop-place.place c.leader_by-leader.result =
    rw (c.as_slice.ensures.value) at c.leader_by-leader.ensures in
    rw (c.in_ok-push.ensures.items)
    (grouping_more (AreAlikeBy m qs old w) (by_itself m qs old w) (by_flip m qs old w) (by_chain m qs old w)
    c.loop-place.finer.items c.loop-place.place c.loop-place.invariant
    c.leader_by-leader.result leads)
