use Rattle.reduction.proofs.Picking.{AreRowsBelow}
use Rattle.reduction.proofs.quotient.rows_of.Given as goal

abbrev pub invariant-loop-place : goal.invariant-loop-place
invariant-loop-place l = AreRowsBelow l.fsm l.blocks l.representatives l.rows l.place
