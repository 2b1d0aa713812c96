use Rattle.chart_meaning.proofs.Leaving.{IsExiting}
use Rattle.chart_meaning.proofs.moves.exit_all.Given as goal

abbrev pub invariant-loop-state : goal.invariant-loop-state
invariant-loop-state l = IsExiting l.chart l.way l.fn.config l.state-index l.child l.config
