use Rattle.reduction.proofs.Picking.{IsPicked}
use Rattle.reduction.proofs.quotient.representatives_of.Given as goal

abbrev pub invariant-loop-state : goal.invariant-loop-state
invariant-loop-state l = IsPicked l.blocks l.found.items l.state
