use Rattle.guard_atoms.proofs.Putting.{IsPutIn}
use Rattle.guard_atoms.proofs.constants.constants_of.Given as goal

abbrev pub invariant-loop-index : goal.invariant-loop-index
invariant-loop-index l = IsPutIn l.coefficients l.memories l.constant l.constants.items l.index
