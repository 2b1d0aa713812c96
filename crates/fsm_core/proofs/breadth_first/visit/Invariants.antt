use Rattle.fsm_core.proofs.Searching.{IsVisiting}
use Rattle.fsm_core.proofs.breadth_first.visit.Given as goal

abbrev pub invariant-loop-letter : goal.invariant-loop-letter
invariant-loop-letter l = IsVisiting l.fsm l.flags l.found.items l.at l.letter l.state
