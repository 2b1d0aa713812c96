-- The machine of a plan. Its letters are the numbers of vectors.
use Rattle.std.specs.Prelude.{◌≡◌, ℕ, ◌<◌, ℤ, List, length, Some, slice_get}
use Rattle.fsm_core.specs.Machine.{Machine, IsMachine, IsWord, state_after}
use Rattle.fsm_core.specs.Answers.{AllReached, answer_from}
use Rattle.input_classes.specs.VectorSet.{Members}
use Rattle.subject.specs.Meaning.{Meaning, answer, state_after as plan_after}
use Rattle.word_pool.specs.Order.{IsBefore, IsUpTo}
use Rattle.abstract_machine.specs.Reached.{AreAllReached}
use Rattle.subject.specs.Suite.{in_vectors}

-- of the words that lead from the start to the state s, w is the first in shortlex order
pub record IsFirstTo (f : Machine) (s : ℕ) (w : List ℕ) : Type 0 where
  pub is_word : IsWord f w
  pub leads : state_after f 0 w ≡ s
  pub first : (v : List ℕ) → IsWord f v → state_after f 0 v ≡ s → IsUpTo w v

-- the states are numbered in breadth-first order with letters ascending: in the order of the first words that lead to them
abbrev pub IsBreadthFirst : Machine → Type 0
IsBreadthFirst f = (s t : ℕ) (u w : List ℕ) → s < t → t < f.states → IsFirstTo f s u → IsFirstTo f t w → IsBefore u w

-- the machine answers each word of letters as the plan answers the vectors that they stand for
abbrev pub AnswersAs : {S : Type 0} → List (List ℤ) → Meaning S → Machine → Type 0
AnswersAs classes m f = (w : List ℕ) → IsWord f w → answer_from f 0 w ≡ answer m (in_vectors classes w)

-- exploring the plan m on vectors gives the machine f: its states are the numbers of the states that m reaches on them,
-- and each word of letters leads to the number of the state to which m is led
pub record IsExplored {S : Type 0} (classes : List (List ℤ)) (m : Meaning S) (f : Machine) : Type 0 where
  pub machine : IsMachine f
  pub letters : f.letters ≡ length classes
  pub answers : AnswersAs classes m f
  pub reached : AllReached f
  pub in_order : IsBreadthFirst f
  pub states : List S
  pub size : length states ≡ f.states
  pub are_all : AreAllReached (Members classes) m states
  pub numbered : (w : List ℕ) → IsWord f w → slice_get states (state_after f 0 w) ≡ Some (plan_after m m.start (in_vectors classes w))
