use Rattle.std.proofs.Common.{◌≡◌, take}
use Rattle.reduction.proofs.quotient.replies_of.Given as goal

abbrev pub invariant-loop-number : goal.invariant-loop-number
invariant-loop-number l = l.replies.items ≡ take l.number l.fsm.replies
