use Rattle.fsm_core.proofs.Replies.{AreDifferentBelow}
use Rattle.fsm_core.proofs.are_different.Given as goal

abbrev pub invariant-loop-place : goal.invariant-loop-place
invariant-loop-place l = AreDifferentBelow l.replies l.place
