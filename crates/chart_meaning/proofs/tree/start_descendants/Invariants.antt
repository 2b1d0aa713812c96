use Rattle.std.proofs.Common.{◌-◌, length}
use Rattle.chart_meaning.proofs.Climbing.{IsWalkingDown}
use Rattle.chart_meaning.proofs.tree.start_descendants.Given as goal

abbrev pub invariant-loop-at : goal.invariant-loop-at
invariant-loop-at l = IsWalkingDown l.states l.state l.way l.at

abbrev pub decreases-loop-at : goal.decreases-loop-at
decreases-loop-at l = 8 - length l.way
