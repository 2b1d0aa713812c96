use Rattle.chart_gen.proofs.Pieces.{one_state}
use Rattle.chart_gen.proofs.text.push_states.Goals as goal

pub loop-state-preserved : goal.loop-state-preserved
loop-state-preserved c = one_state c.loop-state.state _ _ _ c.loop-state.invariant c.in_ok-push_state.ensures
