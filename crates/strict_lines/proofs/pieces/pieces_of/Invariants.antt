use Rattle.std.proofs.Common.{◌≤◌, ◌-◌, length}
use Rattle.strict_lines.proofs.Cutting.{AreSoFar}
use Rattle.strict_lines.proofs.pieces.pieces_of.Given as goal

abbrev pub invariant-loop-from : goal.invariant-loop-from
invariant-loop-from l = (l.from ≤ length l.line) × AreSoFar l.line l.from l.pieces.items

abbrev pub decreases-loop-from : goal.decreases-loop-from
decreases-loop-from l = length l.line - l.from
