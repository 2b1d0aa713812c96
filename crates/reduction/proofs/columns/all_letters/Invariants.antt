use Rattle.std.proofs.Common.{◌≡◌, ℕ, ◌<◌, length, get_or}
use Rattle.reduction.proofs.columns.all_letters.Given as goal

abbrev pub invariant-loop-letter : goal.invariant-loop-letter
invariant-loop-letter l = (length l.letters.items ≡ l.letter) × ((a : ℕ) → a < l.letter → get_or l.letters.items a 0 ≡ a)
