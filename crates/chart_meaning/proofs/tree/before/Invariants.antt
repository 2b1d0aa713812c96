use Rattle.chart_meaning.proofs.Climbing.{IsTakenBefore}
use Rattle.chart_meaning.proofs.tree.before.Given as goal

abbrev pub invariant-loop-state : goal.invariant-loop-state
invariant-loop-state l = IsTakenBefore l.container l.way l.state-items l.state-index l.below
