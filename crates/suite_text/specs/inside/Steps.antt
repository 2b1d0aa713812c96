-- The text of a test's steps, which a scratch holds while tests are written.
use Rattle.std.specs.Prelude.{◌≡◌, ℕ, ◌*◌, ◌≤◌, ◌⊎◌, ℤ, List, length, take, slice_index, Contains}
use Rattle.subject.specs.Suite.{SuiteParts, Test}
use Rattle.suite_model.specs.Scratch.{Place}
use Rattle.suite_model.specs.Text.{step_lines}
use Rattle.suite_text.specs.inside.Parts.{text_of}

-- the text of the first n steps of a test
abbrev pub steps_text : List (List ℤ) → Test → ℕ → List ℕ
steps_text classes t n = text_of (take n (step_lines classes t.letters t.replies))

-- the line is the text of the first n steps of a test, and the scratch keeps where that of fewer steps ends
pub record HaveSteps (classes : List (List ℤ)) (t : Test) (n : ℕ) (place : Place) : Type 0 where
  pub line : place.line ≡ steps_text classes t n
  pub ends : (k : ℕ) → k ≤ n → slice_index place.ends k ≡ length (steps_text classes t k)
  pub short : (k : ℕ) → k ≤ n → length (steps_text classes t k) ≤ 320 * k

-- the line is the text of n steps of some test, and the scratch keeps where that of fewer steps ends
abbrev pub IsStepsText : ℕ → Place → Type 0
IsStepsText n place = (classes : List (List ℤ)) × (t : Test) × HaveSteps classes t n place

-- the scratch holds the n letters of a test of the suite, and the text of its steps
pub record HoldsTest (s : SuiteParts) (t : Test) (n : ℕ) (place : Place) : Type 0 where
  pub here : Contains s.tests t
  pub count : n ≡ length t.letters
  pub letters : take n place.letters ≡ t.letters
  pub steps : HaveSteps s.classes t n place

-- the scratch holds n steps of a test of the suite, or none of any
abbrev pub HoldsSteps : SuiteParts → ℕ → Place → Type 0
HoldsSteps s n place = ((n ≡ 0) × (slice_index place.ends 0 ≡ 0)) ⊎ ((t : Test) × HoldsTest s t n place)
