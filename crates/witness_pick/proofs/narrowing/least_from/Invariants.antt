use Rattle.std.proofs.Common.{◌≡◌, length}
use Rattle.witness_pick.specs.inside.Narrowing.{IsNarrowed, room}
use Rattle.witness_pick.proofs.narrowing.least_from.Given as goal

abbrev pub invariant-loop-variable : goal.invariant-loop-variable
invariant-loop-variable l = (length l.limits ≡ length l.part) × IsNarrowed l.literals l.part l.limits l.found

abbrev pub decreases-loop-variable : goal.decreases-loop-variable
decreases-loop-variable l = room l.limits
