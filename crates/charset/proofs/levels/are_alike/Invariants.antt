use Rattle.std.proofs.Common.{ℕ, ◌<◌}
use Rattle.charset.specs.inside.Levels.{AreAlikeOn}
use Rattle.charset.proofs.levels.are_alike.Given as goal

abbrev pub invariant-loop-letter : goal.invariant-loop-letter
invariant-loop-letter l = (a : ℕ) → a < l.letter → AreAlikeOn l.fsm l.names a l.state l.other
