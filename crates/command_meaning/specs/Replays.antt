-- What the replay of a suite shows.
use Rattle.std.specs.Prelude.{◌≡◌, ◌≢◌, ℕ, ℤ, Bool, List, [], ◌∷◌, ◌++◌, take}
use Rattle.test_world.specs.Shelf.{Holds}
use Rattle.input_classes.specs.VectorSet.{Word}
use Rattle.subject.specs.Domain.{IsFitting}
use Rattle.subject.specs.Suite.{SuiteParts, tests_of}
use Rattle.subject.specs.Tests.{Answers, Failure, TestCase, Passes, failed_word}
use Rattle.suite_reading.specs.Reading.{ReadsSuite}
use Rattle.test_subject.specs.declared.verdict.Verdict.{Verdict}
use Rattle.test_subject.specs.declared.verdict.Verdict.TheVariants.{Pass, Fail}
use Rattle.test_subject.specs.Verdict.{IsVerdict, test_at}
use Rattle.command_stages.specs.Report.{word_at}
use Rattle.command_stages.specs.Stage.{Given}
use Rattle.run_stages.specs.declared.implementation.Implementation.{Implementation}
use Rattle.run_stages.specs.Implementations.{answers_of, signature_of}
use Rattle.judge_stages.specs.Verdicts.{is_pass, verdict_lines}
use Rattle.command_meaning.specs.Runs.{IsImplementationAt}

-- the text held under the word with this number reads as the suite
abbrev pub IsSuiteAt : ℕ → Given → SuiteParts → Type 0
IsSuiteAt number given suite =
    (text : List ℕ) × Holds given.held (word_at given.words number) text × ReadsSuite text suite

-- the replies to the word differ from the expected ones at its last vector and at no earlier one
pub record DifferAtLast (answers : Answers) (word : Word) (expected : List (List ℤ)) : Type 0 where
  pub front : List (List ℤ)
  pub given : List ℤ
  pub wanted : List ℤ
  pub answered : answers word ≡ front ++ given ∷ []
  pub expects : expected ≡ front ++ wanted ∷ []
  pub differ : given ≢ wanted

-- what a verdict on tests shows: that every test is answered as expected; or that the word of the failure is not, at its
-- last vector and at no earlier one
abbrev pub ShowsReplay : List TestCase → Implementation → Verdict → Type 0
ShowsReplay tests implementation Pass = Passes (answers_of implementation) tests
ShowsReplay tests implementation (Fail test step given) =
    let failure : Failure = record { test = test; step = step; given = given } in
    DifferAtLast (answers_of implementation) (failed_word tests failure) (take step (test_at tests test).replies)

-- the text is that of the verdict on the held implementation, whose signature fits, by the suite that is read; and what
-- the verdict shows
pub record IsReplayOf (given : Given) (passes : Bool) (text : List ℕ) : Type 0 where
  pub suite : SuiteParts
  pub is_suite : IsSuiteAt 1 given suite
  pub implementation : Implementation
  pub is_implementation : IsImplementationAt 2 given implementation
  pub fits : IsFitting suite.signature (signature_of implementation)
  pub verdict : Verdict
  pub is_verdict : IsVerdict (answers_of implementation) (tests_of suite) verdict
  pub same_text : text ≡ verdict_lines suite verdict
  pub same_passes : passes ≡ is_pass verdict
  pub shows : ShowsReplay (tests_of suite) implementation verdict
