-- The state cover of a machine.
use Rattle.std.specs.Prelude.{◌≡◌, ℕ, ◌<◌, List, length}
use Rattle.fsm_core.specs.Machine.{Machine, IsWord, state_after}
use Rattle.word_pool.specs.Words.{word}
use Rattle.suite_words.specs.Cover.{IsCoverBy}

-- two words lead from the start to one state
abbrev pub LeadTogether : Machine → List ℕ → List ℕ → Type 0
LeadTogether m u w = state_after m 0 u ≡ state_after m 0 w

-- some word of the list leads to the state
pub record IsCovered (m : Machine) (cover : List (List ℕ)) (s : ℕ) : Type 0 where
  pub place : ℕ
  pub inside : place < length cover
  pub leads : state_after m 0 (word cover place) ≡ s

-- for each state the first word in shortlex order that leads to it, in shortlex order
pub record IsCover (m : Machine) (cover : List (List ℕ)) : Type 0 where
  pub least : IsCoverBy m.letters (LeadTogether m) cover
  pub size : length cover ≡ m.states
  pub each : (s : ℕ) → s < m.states → IsCovered m cover s
