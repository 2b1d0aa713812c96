use Rattle.std.proofs.Common.{◌-◌, length}
use Rattle.line_checks.proofs.Walks.{WalksSum}
use Rattle.line_checks.proofs.walk.sum_end.Given as goal

abbrev pub invariant-terms : goal.invariant-terms
invariant-terms l = WalksSum l.line l.fn.at l.end

abbrev pub decreases-terms : goal.decreases-terms
decreases-terms l = length l.line - l.end
