use Rattle.linear_refuter.proofs.Ends.{AreEnds}
use Rattle.linear_refuter.proofs.implication.box_ends.Given as goal

abbrev pub invariant-loop-index : goal.invariant-loop-index
invariant-loop-index l = AreEnds l.coefficients l.ranges l.index l.least l.greatest
