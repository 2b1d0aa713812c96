use Rattle.std.proofs.Common.{◌≡◌, ◌≤◌, ◌+◌, ◌-◌, ◌++◌, length, map, drop}
use Rattle.strict_lines.specs.Pieces.{said}
use Rattle.suite_reader.specs.inside.Words.{leading}
use Rattle.suite_reader.proofs.line.push_leading.Given as goal

abbrev pub invariant-loop-count : goal.invariant-loop-count
invariant-loop-count l = record {
  upto : l.count ≤ length l.pieces;
  many : length (leading (map said l.pieces)) ≡ l.count + length (leading (map said (drop l.count l.pieces)));
  so_far : l.fn.numbers.items ++ leading (map said l.pieces) ≡ l.numbers.items ++ leading (map said (drop l.count l.pieces));
}

abbrev pub decreases-loop-count : goal.decreases-loop-count
decreases-loop-count l = length l.pieces - l.count
