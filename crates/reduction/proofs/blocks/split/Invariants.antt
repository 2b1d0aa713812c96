use Rattle.reduction.proofs.Splitting.{IsSplit}
use Rattle.reduction.proofs.blocks.split.Given as goal

abbrev pub invariant-loop-state : goal.invariant-loop-state
invariant-loop-state l = IsSplit l.fsm l.blocks l.letter l.keys.keys l.finer.items l.state
