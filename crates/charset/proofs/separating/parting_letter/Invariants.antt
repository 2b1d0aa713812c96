use Rattle.std.proofs.Common.{ℕ, ◌-◌, ◌<◌, ◌≤◌}
use Rattle.charset.specs.inside.Levels.{AreAlikeOn}
use Rattle.charset.proofs.separating.parting_letter.Given as goal

abbrev pub invariant-loop-letter : goal.invariant-loop-letter
invariant-loop-letter l = record {
  upto : l.letter ≤ l.fsm.letters;
  same : (a : ℕ) → a < l.letter → AreAlikeOn l.fsm l.names a l.state l.other;
}

abbrev pub decreases-loop-letter : goal.decreases-loop-letter
decreases-loop-letter l = l.fsm.letters - l.letter
