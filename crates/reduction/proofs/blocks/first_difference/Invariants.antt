use Rattle.std.proofs.Common.{ℕ, ◌<◌, get_or}
use Rattle.reduction.specs.Blocks.{AreAlikeOn}
use Rattle.reduction.proofs.blocks.first_difference.Given as goal

abbrev pub invariant-loop-letter : goal.invariant-loop-letter
invariant-loop-letter l = (i : ℕ) → i < l.letter-index → AreAlikeOn l.fsm l.blocks (get_or l.letters i 0) l.state l.other
