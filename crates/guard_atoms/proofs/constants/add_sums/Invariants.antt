use Rattle.guard_atoms.proofs.Putting.{IsSumming}
use Rattle.guard_atoms.proofs.constants.add_sums.Given as goal

abbrev pub invariant-loop-value : goal.invariant-loop-value
invariant-loop-value l = IsSumming l.coefficient l.constant l.fn.memory l.fn.sums.items l.sums.items l.value l.value-end
