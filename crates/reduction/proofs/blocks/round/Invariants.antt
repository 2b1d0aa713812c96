use Rattle.reduction.proofs.Rounds.{IsRound}
use Rattle.reduction.proofs.blocks.round.Given as goal

abbrev pub invariant-loop-state : goal.invariant-loop-state
invariant-loop-state l = IsRound l.fsm l.letters l.fn.blocks.items l.blocks.items l.representatives.items l.changed l.state
