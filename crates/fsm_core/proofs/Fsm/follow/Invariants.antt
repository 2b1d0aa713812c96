use Rattle.std.proofs.Common.{◌≡◌, ◌<◌, drop}
use Rattle.fsm_core.specs.Machine.{state_after}
use Rattle.fsm_core.proofs.Fsm.follow.Given as goal

abbrev pub invariant-loop-letter : goal.invariant-loop-letter
invariant-loop-letter l = (l.at < l.self.states) × (state_after l.self l.state l.word ≡ state_after l.self l.at (drop l.letter-index l.word))
