use Rattle.std.proofs.Common.{◌-◌}
use Rattle.fsm_core.specs.inside.Flags.{IsSearch}
use Rattle.fsm_core.proofs.breadth_first.search.Given as goal

abbrev pub invariant-loop-at : goal.invariant-loop-at
invariant-loop-at l = IsSearch l.fsm l.flags.items l.found.items l.at 0

abbrev pub decreases-loop-at : goal.decreases-loop-at
decreases-loop-at l = l.fsm.states - l.at
