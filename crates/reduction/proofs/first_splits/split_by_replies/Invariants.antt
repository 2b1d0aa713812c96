use Rattle.reduction.specs.Blocks.{AreBlocks}
use Rattle.reduction.specs.Quotient.{AreRepresentatives}
use Rattle.reduction.proofs.first_splits.split_by_replies.Given as goal

abbrev pub invariant-loop-state : goal.invariant-loop-state
invariant-loop-state l = AreBlocks l.fsm l.blocks.items × AreRepresentatives l.blocks.items l.representatives.items
