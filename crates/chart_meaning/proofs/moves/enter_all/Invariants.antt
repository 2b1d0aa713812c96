use Rattle.chart_meaning.proofs.Moving.{IsEntering}
use Rattle.chart_meaning.proofs.moves.enter_all.Given as goal

abbrev pub invariant-loop-state : goal.invariant-loop-state
invariant-loop-state l = IsEntering l.chart l.way l.fn.config l.state-index l.config
