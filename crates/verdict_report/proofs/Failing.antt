-- The test and the step that a failure names.
use Rattle.std.proofs.Common.{◌≡◌, ℕ, ◌-◌, ◌<◌, ◌≤◌, ℤ, List, [], length, take, get_or, Some, sym, ap, ◌∙◌, subst, arith, slice_get}
use Rattle.std.proofs.lemmas.List.{length-map}
use Rattle.std.proofs.lemmas.Option.{slice_get-get_or, get_or_from_slice_get}
use Rattle.subject.specs.Suite.{SuiteParts, Test, in_vectors, test_case, tests_of}
use Rattle.subject.specs.Tests.{TestCase, failed_word, no_test}
use Rattle.suite_model.specs.Suite.{IsSuite}
use Rattle.test_subject.specs.Verdict.{IsStep, test_at, expected_at}
use Rattle.test_subject.proofs.CallerLemmas.{test_there, as_many}
use Rattle.verdict_report.proofs.Growing.{no_test as no_letters}

pub place : (s : SuiteParts) (test step : ℕ) → IsStep (tests_of s) test step → slice_get s.tests (test - 1) ≡ Some (get_or s.tests (test - 1) no_letters)
place s test step names =
    let some : 0 < test = names.some_test in
    let within : test ≤ length (tests_of s) = names.in_tests in
    let many = length-map s.tests (test_case s.classes) in
    slice_get-get_or s.tests (test - 1) no_letters (omega (arith, some, within, many))

module _ (s : SuiteParts) (suite : IsSuite s) (test step : ℕ) (names : IsStep (tests_of s) test step) (t : Test) (there : slice_get s.tests (test - 1) ≡ Some t) where
  pub test_is : test_at (tests_of s) test ≡ test_case s.classes t
  test_is = get_or_from_slice_get (tests_of s) (test - 1) (test_case s.classes t) no_test (test_there s suite (test - 1) t there)

  -- its step is one of its letters
  pub steps_in : step ≤ length t.letters
  steps_in =
      let within : step ≤ length t.replies = subst (λ (u : TestCase). step ≤ length u.replies) test_is names.in_test in
      let many = as_many s suite (test - 1) t there in
      omega (arith, within, many)

  pub step_in : step - 1 < length t.letters
  step_in = let some : 0 < step = names.some_step in omega (arith, steps_in, some)

  -- its inputs up to the step
  pub inputs_are : (given : List ℤ) → take step (in_vectors s.classes t.letters) ≡ failed_word (tests_of s) (record { test = test; step = step; given = given })
  inputs_are given = ap (λ (u : TestCase). take step u.word) (sym test_is)

  -- the reply that is expected there
  pub wanted_is : (expected : List ℤ) → slice_get t.replies (step - 1) ≡ Some expected → expected ≡ expected_at (tests_of s) test step
  wanted_is expected is = sym (ap (λ (u : TestCase). get_or u.replies (step - 1) []) test_is ∙ get_or_from_slice_get t.replies (step - 1) expected [] is)
