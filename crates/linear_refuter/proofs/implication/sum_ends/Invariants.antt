use Rattle.linear_refuter.specs.SumEnds.{AreSumEnds}
use Rattle.linear_refuter.proofs.implication.sum_ends.Given as goal

abbrev pub invariant-loop-index : goal.invariant-loop-index
invariant-loop-index l = AreSumEnds l.literals l.part l.atom.coefficients l.ends
