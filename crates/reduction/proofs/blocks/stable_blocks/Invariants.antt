use Rattle.std.proofs.Common.{◌-◌, ◌*◌, sum}
use Rattle.reduction.specs.Blocks.{AreBlocks}
use Rattle.reduction.proofs.blocks.stable_blocks.Given as goal

abbrev pub invariant-loop-letters : goal.invariant-loop-letters
invariant-loop-letters l = AreBlocks l.fsm l.blocks.items

abbrev pub decreases-loop-letters : goal.decreases-loop-letters
decreases-loop-letters l = l.fsm.states * l.fsm.states - sum l.blocks.items
