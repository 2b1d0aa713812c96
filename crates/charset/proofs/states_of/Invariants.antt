use Rattle.std.proofs.Common.{◌≡◌, ◌<◌, take, map, All}
use Rattle.fsm_core.specs.Machine.{state_after}
use Rattle.word_pool.specs.Words.{words_at}
use Rattle.charset.proofs.states_of.Given as goal

abbrev pub invariant-loop-id : goal.invariant-loop-id
invariant-loop-id l = record {
  states : l.states.items ≡ map (state_after l.fsm 0) (words_at l.pool.words (take l.id-index l.ids));
  inside : All (λ s. s < l.fsm.states) l.states.items;
}
