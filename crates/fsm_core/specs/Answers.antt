-- What a machine answers, and which of its states differ by what they answer.
use Rattle.std.specs.Prelude.{◌≡◌, ◌≢◌, ℕ, ℤ, ◌<◌, List, [], ◌∷◌, Some, slice_get}
use Rattle.fsm_core.specs.Machine.{Machine, next, number, reply_at, IsWord, state_after}

-- the numbers of the replies to a word, from a state
abbrev pub numbers : Machine → ℕ → List ℕ → List ℕ
numbers m s [] = []
numbers m s (a ∷ word) = number m s a ∷ numbers m (next m s a) word

-- the replies to a word, from a state
abbrev pub answer_from : Machine → ℕ → List ℕ → List (List ℤ)
answer_from m s [] = []
answer_from m s (a ∷ word) = reply_at m.replies (number m s a) ∷ answer_from m (next m s a) word

-- two states of two machines answer every word alike; its letters are those of the first machine
abbrev pub AnswerAlike : Machine → ℕ → Machine → ℕ → Type 0
AnswerAlike m s r t = (word : List ℕ) → IsWord m word → answer_from m s word ≡ answer_from r t word

-- the list gives each state of m a state of r, its image, which answers every word alike
abbrev pub KeepAnswers : Machine → Machine → List ℕ → Type 0
KeepAnswers m r image = (s i : ℕ) → slice_get image s ≡ Some i → AnswerAlike m s r i

-- states that answer every word alike have one image
abbrev pub JoinAlike : Machine → List ℕ → Type 0
JoinAlike m image = (s t : ℕ) → s < m.states → t < m.states → AnswerAlike m s m t → slice_get image s ≡ slice_get image t

-- some word that two states answer differently: a distinguishing word
pub record AnswerDifferently (m : Machine) (s t : ℕ) : Type 0 where
  pub word : List ℕ
  pub is_word : IsWord m word
  pub differ : answer_from m s word ≢ answer_from m t word

-- some word leads from the start to the state
pub record IsReached (m : Machine) (s : ℕ) : Type 0 where
  pub word : List ℕ
  pub is_word : IsWord m word
  pub leads : state_after m 0 word ≡ s

-- every state is reached from the start
abbrev pub AllReached : Machine → Type 0
AllReached m = (s : ℕ) → s < m.states → IsReached m s

-- the machine is reduced: each two different states answer some word differently
abbrev pub IsReduced : Machine → Type 0
IsReduced m = (s t : ℕ) → s < m.states → t < m.states → s ≢ t → AnswerDifferently m s t
