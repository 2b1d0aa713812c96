-- What happens to a subject while tests are run.
use Rattle.std.specs.Prelude.{◌≡◌, ◌≢◌, ℕ, ◌+◌, ℤ, List, [], ◌∷◌, ◌++◌, take, slice_get, Option, Some, None, Result, Ok, Err}
use Rattle.std.specs.List.{flat_map}
use Rattle.input_classes.specs.VectorSet.{Word}
use Rattle.subject.specs.Tests.{TestCase, Passes}
use Rattle.test_subject.specs.Subject.{SubjectState, ToldPlan, Gives, Sends, SendsPrefix}
use Rattle.test_subject.specs.Exchange.{Turn, Reset, Step, turn_line, lines, steps, test_turns, turns, up_to}
use Rattle.suite_run.specs.declared.run.Difference.{Difference}

abbrev pub turn_replies : Turn → List (List ℤ)
turn_replies Reset = []
turn_replies (Step input reply) = reply ∷ []

abbrev pub replies : List Turn → List (List ℤ)
replies turns = flat_map turn_replies turns

-- all of these turns succeeded
pub record Ran (before after : SubjectState) (turns : List Turn) : Type 0 where
  pub coming : Gives before after (replies turns)
  pub sent : Sends before after (lines turns)

-- one of these turns failed, and all before it succeeded
pub record Stopped (before after : SubjectState) (turns : List Turn) : Type 0 where
  pub done : List Turn
  pub next : Turn
  pub rest : List Turn
  pub between : SubjectState
  pub is : turns ≡ done ++ next ∷ rest
  pub ran : Ran before between done
  pub sent : SendsPrefix between after (turn_line next)

-- the first steps of a test were run and answered as expected; where a plan is told, it answers so, and then as it does from
-- here
pub record IsAtStep (before now : SubjectState) (test : TestCase) (step : ℕ) : Type 0 where
  pub ran : Ran before now (Reset ∷ steps (take step test.word) (take step test.replies))
  pub answers : (plan : ToldPlan) → before.plan ≡ Some plan → (v : Word)
      → plan.answers (take step test.word ++ v) ≡ take step test.replies ++ now.here v

-- the first tests were run and answered as expected
pub record HasPassed (before now : SubjectState) (tests : List TestCase) (count : ℕ) : Type 0 where
  pub ran : Ran before now (turns (take count tests))
  pub answers : (plan : ToldPlan) → before.plan ≡ Some plan → Passes plan.answers (take count tests)

-- the test was run whole, and where a plan is told, it answers the test as expected
pub record Agrees (before after : SubjectState) (test : TestCase) : Type 0 where
  pub ran : Ran before after (test_turns test)
  pub answers : (plan : ToldPlan) → before.plan ≡ Some plan → plan.answers test.word ≡ test.replies

-- the test was run up to a step, counted from 0, whose reply differs; where a plan is told, it answers so
pub record Differs (before after : SubjectState) (test : TestCase) (step : ℕ) (given : List ℤ) : Type 0 where
  pub expected : List ℤ
  pub wanted : slice_get test.replies step ≡ Some expected
  pub differs : given ≢ expected
  pub ran : Ran before after (test_turns (up_to test (step + 1) given))
  pub more : List (List ℤ)
  pub answers : (plan : ToldPlan) → before.plan ≡ Some plan
      → plan.answers test.word ≡ take step test.replies ++ given ∷ more

-- what running a test comes to
abbrev pub Tries : {E : Type 0} → SubjectState → SubjectState → TestCase → Result (Option Difference) E → Type 0
Tries before after test (Ok None) = Agrees before after test
Tries before after test (Ok (Some difference)) = Differs before after test difference.step difference.given
Tries before after test (Err error) = Stopped before after (test_turns test)
