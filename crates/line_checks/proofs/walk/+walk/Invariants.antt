use Rattle.std.proofs.Common.{◌+◌, ◌-◌, ◌*◌, length}
use Rattle.line_checks.proofs.Walks.{WalksConj, WalksGuard}
use Rattle.line_checks.proofs.walk.+walk.Given as goal

abbrev pub decreases-unit_end : goal.decreases-unit_end
decreases-unit_end l = 3 * (length l.line.now - l.at)

abbrev pub decreases-conj_end : goal.decreases-conj_end
decreases-conj_end l = 3 * (length l.line.now - l.at) + 1

abbrev pub decreases-guard_end : goal.decreases-guard_end
decreases-guard_end l = 3 * (length l.line.now - l.at) + 2

abbrev pub invariant-conj_end-units : goal.invariant-conj_end-units
invariant-conj_end-units l = WalksConj l.line l.fn.at l.end

abbrev pub decreases-conj_end-units : goal.decreases-conj_end-units
decreases-conj_end-units l = length l.line - l.end

abbrev pub invariant-guard_end-conjs : goal.invariant-guard_end-conjs
invariant-guard_end-conjs l = WalksGuard l.line l.fn.at l.end

abbrev pub decreases-guard_end-conjs : goal.decreases-guard_end-conjs
decreases-guard_end-conjs l = length l.line - l.end
