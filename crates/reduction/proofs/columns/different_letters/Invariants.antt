use Rattle.fsm_core.specs.Machine.{IsWord}
use Rattle.reduction.proofs.columns.different_letters.Given as goal

abbrev pub invariant-loop-letter : goal.invariant-loop-letter
invariant-loop-letter l = IsWord l.fsm l.letters.items
