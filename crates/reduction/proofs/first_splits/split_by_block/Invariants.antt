use Rattle.reduction.specs.Blocks.{AreBlocks}
use Rattle.reduction.proofs.first_splits.split_by_block.Given as goal

abbrev pub invariant-loop-letter : goal.invariant-loop-letter
invariant-loop-letter l = AreBlocks l.fsm l.blocks.items
