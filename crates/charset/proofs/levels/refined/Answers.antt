use Rattle.charset.specs.inside.Levels.{AreAlikeOnAll, IsLeader}
use Rattle.charset.proofs.Grouping.{grouping_more}
use Rattle.charset.proofs.Leveling.{all_chain, all_flip, all_itself}
use Rattle.charset.proofs.levels.refined.Goals as goal

pub loop-state-preserved : goal.loop-state-preserved
loop-state-preserved c =
    let m = c.args.fsm.now in
    let old = c.args.names.now in
    let leads : IsLeader c.loop-state.finer.items (AreAlikeOnAll m old) c.loop-state.state c.leader_of-leader.result =
    rw (c.as_slice.ensures.value) at c.leader_of-leader.ensures in
    rw (c.in_ok-push.ensures.items)
    (grouping_more (AreAlikeOnAll m old) (all_itself m old) (all_flip m old) (all_chain m old)
    c.loop-state.finer.items c.loop-state.state c.loop-state.invariant
    c.leader_of-leader.result leads)
