use Rattle.chart_gen.proofs.Pieces.{one_pair}
use Rattle.chart_gen.proofs.text.push_transitions.Goals as goal

pub loop-state-preserved : goal.loop-state-preserved
loop-state-preserved c =
    one_pair c.args.gap c.loop-state.state _ _ _ _ c.loop-state.invariant c.in_ok-push_up.ensures c.in_ok-push_down.ensures
