use Rattle.reduction.specs.Blocks.{AreBlocks}
use Rattle.reduction.proofs.first_splits.few_rounds.Given as goal

abbrev pub invariant-loop : goal.invariant-loop
invariant-loop l = AreBlocks l.fsm l.blocks.items
