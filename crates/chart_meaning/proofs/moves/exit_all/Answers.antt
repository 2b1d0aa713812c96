use Rattle.chart_meaning.proofs.Leaving.{IsExiting-active}
use Rattle.chart_meaning.proofs.moves.exit_all.Goals as goal

pub exit-requires-clause-child : goal.exit-requires-clause-child
exit-requires-clause-child c =
    IsExiting-active c.args.chart.now c.args.way.now c.args.config.now c.loop-state.state-index c.loop-state.child
    c.loop-state.config c.requires.configuration.childless c.loop-state-test.true c.loop-state.invariant
