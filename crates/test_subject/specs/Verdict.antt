-- Verdicts on tests.
use Rattle.std.specs.Prelude.{◌≢◌, ℕ, ◌-◌, ◌<◌, ◌≤◌, ℤ, List, [], length, slice_index_or}
use Rattle.subject.specs.Tests.{Answers, TestCase, Passes, IsFirstFailure, no_test}
use Rattle.test_subject.specs.declared.verdict.Verdict.{Verdict}
use Rattle.test_subject.specs.declared.verdict.Verdict.TheVariants.{Pass, Fail}

-- the verdict on answers: that they pass the tests, or otherwise their first failure
abbrev pub IsVerdict : Answers → List TestCase → Verdict → Type 0
IsVerdict answers tests Pass = Passes answers tests
IsVerdict answers tests (Fail test step given) =
    IsFirstFailure answers tests (record { test = test; step = step; given = given })

-- the test with this number, counted from 1
abbrev pub test_at : List TestCase → ℕ → TestCase
test_at tests test = slice_index_or tests (test - 1) no_test

-- the reply that is expected at a step of a test, both counted from 1
abbrev pub expected_at : List TestCase → ℕ → ℕ → List ℤ
expected_at tests test step = slice_index_or (test_at tests test).replies (step - 1) []

-- there is such a step, both counted from 1
pub record IsStep (tests : List TestCase) (test step : ℕ) : Type 0 where
  pub some_test : 0 < test
  pub in_tests : test ≤ length tests
  pub some_step : 0 < step
  pub in_test : step ≤ length (test_at tests test).replies

-- a verdict that names a step names one of the tests
abbrev pub NamesStep : List TestCase → Verdict → Type 0
NamesStep tests Pass = Unit {0}
NamesStep tests (Fail test step given) = IsStep tests test step

-- and gives a reply that differs from the expected one
abbrev pub NamesDifference : List TestCase → Verdict → Type 0
NamesDifference tests Pass = Unit {0}
NamesDifference tests (Fail test step given) = IsStep tests test step × (given ≢ expected_at tests test step)
