-- What a replay shows.
use Rattle.std.proofs.Common.{◌≡◌, ℕ, ◌-◌, ℤ, List, [], ◌∷◌, ◌++◌, take, Some, slice_get, ap, ◌∙◌, arith}
use Rattle.std.specs.Prelude.{slice_index_or}
use Rattle.std.proofs.lemmas.List.{take_more}
use Rattle.std.proofs.lemmas.Option.{slice_get_within, get_or_from_slice_get}
use Rattle.chart_meaning.specs.Plan.{plan_of_chart}
use Rattle.impl_table.specs.Plan.{plan_of_table}
use Rattle.subject.specs.Meaning.{Meaning, answer}
use Rattle.subject.specs.Tests.{TestCase, Failure, IsFirstFailure, failed_word, no_test}
use Rattle.subject.proofs.Words.{answer_from-take}
use Rattle.test_subject.specs.declared.verdict.Verdict.{Verdict}
use Rattle.test_subject.specs.declared.verdict.Verdict.TheVariants.{Pass, Fail}
use Rattle.test_subject.specs.Verdict.{IsVerdict, test_at}
use Rattle.run_stages.specs.declared.implementation.Implementation.{Implementation}
use Rattle.run_stages.specs.declared.implementation.Implementation.TheVariants.{Chart as OfChart, Table as OfTable}
use Rattle.run_stages.specs.Implementations.{answers_of}
use Rattle.command_meaning.specs.Replays.{DifferAtLast, ShowsReplay}

module _ {S : Type 0} (i : Meaning S) (tests : List TestCase) (f : Failure) (h : IsFirstFailure (answer i) tests f) where
  the_test : test_at tests f.test ≡ h.failed
  the_test =
      let e = h.test_number in
      let place : f.test - 1 ≡ h.tests_before = omega arith in
      ap (λ k. slice_index_or tests k no_test) place ∙ get_or_from_slice_get tests h.tests_before h.failed no_test h.there

  one_more : (xs : List (List ℤ)) (x : List ℤ) → slice_get xs h.steps_before ≡ Some x → take f.step xs ≡ take h.steps_before xs ++ x ∷ []
  one_more xs x there =
      ap (λ k. take k xs) h.step_number ∙ take_more xs h.steps_before x (slice_get_within xs h.steps_before x there)
      ∙ ap (λ y. take h.steps_before xs ++ y ∷ []) (get_or_from_slice_get xs h.steps_before x x there)

  differ_at_last : DifferAtLast (answer i) (failed_word tests f) (take f.step (test_at tests f.test).replies)
  differ_at_last = record {
    front = take h.steps_before h.failed.replies;
    given = f.given;
    wanted = h.expected;
    answered = ap (λ (t : TestCase). answer i (take f.step t.word)) the_test ∙ answer_from-take i i.start h.failed.word f.step
        ∙ one_more (answer i h.failed.word) f.given h.given ∙ ap (λ t. t ++ f.given ∷ []) h.same;
    expects = ap (λ (t : TestCase). take f.step t.replies) the_test ∙ one_more h.failed.replies h.expected h.wanted;
    differ = h.differs;
  }

pub shows_replay : (tests : List TestCase) (i : Implementation) (v : Verdict) → IsVerdict (answers_of i) tests v → ShowsReplay tests i v
shows_replay tests i Pass h = h
shows_replay tests (OfChart chart) (Fail test step given) h = differ_at_last (plan_of_chart chart) tests (record { test = test; step = step; given = given }) h
shows_replay tests (OfTable table) (Fail test step given) h = differ_at_last (plan_of_table table) tests (record { test = test; step = step; given = given }) h
