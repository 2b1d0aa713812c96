use Rattle.std.proofs.Common.{◌≤◌, ◌<◌, ◌-◌, ◌≢◌, ℕ, length, get_or}
use Rattle.strict_lines.proofs.pieces.next_byte.Given as goal

abbrev pub invariant-loop-at : goal.invariant-loop-at
invariant-loop-at l = (l.at ≤ length l.bytes) × (l.fn.from ≤ l.at) × ((k : ℕ) → l.fn.from ≤ k → k < l.at → get_or l.bytes k 0 ≢ l.byte)

abbrev pub decreases-loop-at : goal.decreases-loop-at
decreases-loop-at l = length l.bytes - l.at
