use Rattle.std.proofs.Common.{◌-◌, length}
use Rattle.suite_reader.proofs.SoFar.{IsSoFar}
use Rattle.suite_reader.proofs.read.read_suite.Given as goal

abbrev pub invariant-lines : goal.invariant-lines
invariant-lines l = IsSoFar l.text l.from l.line l.reader

abbrev pub decreases-lines : goal.decreases-lines
decreases-lines l = length l.text - l.from
