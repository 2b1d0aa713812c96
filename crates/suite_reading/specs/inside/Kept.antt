-- What holds of every state that lines lead to.
use Rattle.std.specs.Prelude.{◌≡◌, ℕ, ◌<◌, ◌≤◌, true, [], length}
use Rattle.std.specs.List.{All}
use Rattle.suite_words.specs.Cover.{AreLetters}
use Rattle.suite_reading.specs.declared.place.Place.{Place}
use Rattle.suite_reading.specs.declared.place.Place.TheVariants as place
use Rattle.suite_reading.specs.State.{State, no_test, AreRuled}
use Rattle.suite_reading.specs.Checks.{is_in_box}

-- the places in their order
abbrev pub level : Place → ℕ
level place.Start = 0
level place.Suite = 1
level place.Inputs = 2
level place.Outputs = 3
level place.Bound = 4
level place.States = 5
level place.Classes = 6
level place.Cover = 7
level place.Marks = 8
level place.Steps = 9
level place.Tests = 10
level place.End = 11

-- what was said so far is within the limits, and what comes later was not said
pub record IsCounted (s : State) : Type 0 where
  pub few_inputs : length s.inputs ≤ 6
  pub few_outputs : length s.outputs ≤ 8
  pub few_classes : length s.classes ≤ 4096
  pub inputs : 2 ≤ level s.place → 0 < length s.inputs
  pub outputs : 3 ≤ level s.place → 0 < length s.outputs
  pub tests : 10 ≤ level s.place → 0 < length s.tests
  pub no_inputs : level s.place < 2 → s.inputs ≡ []
  pub no_outputs : level s.place < 3 → s.outputs ≡ []
  pub no_classes : level s.place < 6 → s.classes ≡ []
  pub no_cover : level s.place < 7 → s.cover ≡ []
  pub no_marks : level s.place < 8 → s.marks ≡ []
  pub no_tests : level s.place < 9 → s.tests ≡ []
  pub closed : ¬ (s.place ≡ place.Steps) → s.now ≡ no_test
  pub opened : s.place ≡ place.Steps → length s.now.replies < length s.now.letters

-- what was said keeps the rules of a suite
pub record IsRuled (s : State) : Type 0 where
  pub vectors : All (λ v. is_in_box s.inputs v ≡ true) s.classes
  pub cover : All (AreLetters (length s.classes)) s.cover
  pub marks : All (AreLetters (length s.classes)) s.marks
  pub tests : All (AreRuled (length s.classes) (length s.outputs)) s.tests
  pub now : AreRuled (length s.classes) (length s.outputs) s.now

pub record Kept (s : State) : Type 0 where
  pub counted : IsCounted s
  pub ruled : IsRuled s
