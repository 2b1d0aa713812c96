-- The characterisation set of a machine: the marks of its cover.
use Rattle.std.specs.Prelude.{ℕ, ℤ, List, length}
use Rattle.fsm_core.specs.Machine.{Machine, state_after}
use Rattle.fsm_core.specs.Answers.{answer_from}
use Rattle.word_pool.specs.Words.{word}
use Rattle.suite_words.specs.Marks.{AreMarksBy}

-- what a machine answers to a word after the cover word with a number
abbrev pub answer_after : Machine → List (List ℕ) → ℕ → List ℕ → List (List ℤ)
answer_after m cover i w = answer_from m (state_after m 0 (word cover i)) w

-- the marks of the cover of a machine
abbrev pub AreMarks : Machine → List (List ℕ) → List (List ℕ) → Type 0
AreMarks m cover marks = AreMarksBy (answer_after m cover) (length cover) m.letters marks
