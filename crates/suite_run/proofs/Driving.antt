-- All tests, one after another.
use Rattle.std.proofs.Common.{◌≡◌, ℕ, zero, suc, ◌+◌, ◌-◌, ◌<◌, ◌≤◌, ℤ, List, [], ◌∷◌, ◌++◌, length, take, drop, get_or, Some, refl, sym, ap, ◌∙◌, subst, arith, append_assoc, append-nil, slice_get, length-append}
use Rattle.std.specs.List.{flat_map, All}
use Rattle.std.proofs.lemmas.List.{length-take-le, take_all, take_at}
use Rattle.std.proofs.lemmas.List.Concat.{flat_map-append}
use Rattle.std.proofs.lemmas.List.Elements.{All-push, All-head, All-tail, All-take}
use Rattle.std.proofs.lemmas.Option.{slice_get_within, slice_get-get_or, get_or_from_slice_get}
use Rattle.subject.specs.Tests.{TestCase, AnswersTest, Passes, no_test}
use Rattle.test_subject.specs.Subject.{SubjectState, ToldPlan, Keeps, IsAhead, Gives, Sends}
use Rattle.test_subject.specs.Verdict.{IsVerdict, NamesDifference, test_at, expected_at}
use Rattle.test_subject.specs.Exchange.{Turn, Reset, Step, steps, test_turns, turns, up_to, run_up_to, lines_to, replies_to, exchange}
use Rattle.test_subject.specs.declared.verdict.Verdict.TheVariants.{Fail}
use Rattle.test_subject.proofs.CallerLemmas.{all_at}
use Rattle.suite_run.specs.inside.Running.{turn_replies, replies, Ran, Stopped, HasPassed, Agrees, Differs}
use Rattle.suite_run.proofs.Turns.{one_more, cut_at, steps_to, steps_at, replies-steps}
use Rattle.suite_run.proofs.Running.{ran_both, stopped_after, stopped_before, ran_exchange, differs_exchange}
use Rattle.suite_run.proofs.Testing.{one_less}

abbrev wanted : TestCase → List (List ℤ)
wanted test = test.replies

abbrev IsEven : TestCase → Type 0
IsEven test = length test.word ≡ length test.replies

-- the replies of the turns of tests are the expected ones
replies-turns : (tests : List TestCase) → All IsEven tests → replies (turns tests) ≡ flat_map wanted tests
replies-turns [] h = refl
replies-turns (t ∷ tests) h =
    flat_map-append turn_replies (test_turns t) (turns tests)
    ∙ ap (λ l. l ++ replies (turns tests)) (replies-steps t.word t.replies (All-head IsEven t tests h))
    ∙ ap (λ l. t.replies ++ l) (replies-turns tests (All-tail IsEven t tests h))

turns-push : (tests : List TestCase) (t : TestCase) → turns (tests ++ t ∷ []) ≡ turns tests ++ test_turns t
turns-push tests t = flat_map-append test_turns tests (t ∷ []) ∙ ap (λ l. turns tests ++ l) (append-nil (test_turns t))

module _ (before now after : SubjectState) (tests : List TestCase) (i : ℕ) (tc : TestCase) (passed : HasPassed before now tests i) (keeps : Keeps before now) (there : slice_get tests i ≡ Some tc) where
  all_turns : turns tests ≡ turns (take i tests) ++ (test_turns tc ++ turns (drop (i + 1) tests))
  all_turns = ap turns (cut_at tests i tc there) ∙ flat_map-append test_turns (take i tests) (tc ∷ drop (i + 1) tests)

  -- one more test passes
  pub test_passes : Agrees now after tc → HasPassed before after tests (i + 1)
  test_passes agrees =
      let more = one_more tests i tc there in
      record {
        ran = subst (λ (l : List TestCase). Ran before after (turns l)) (sym more) (subst (Ran before after) (sym (turns-push (take i tests) tc)) (ran_both passed.ran agrees.ran));
        answers = λ plan told.
            let P : TestCase → Type 0 = AnswersTest plan.answers in
            subst (All P) (sym more) (All-push P (take i tests) tc (passed.answers plan told) (agrees.answers plan (keeps.plan ∙ told)));
      }

  -- a call fails in it
  pub test_stops : Stopped now after (test_turns tc) → Stopped before after (turns tests)
  test_stops stopped = subst (Stopped before after) (sym all_turns) (stopped_after passed.ran (stopped_before (turns (drop (i + 1) tests)) stopped))

  -- a reply differs in it
  module _ (even : All IsEven tests) (step : ℕ) (given : List ℤ) (d : Differs now after tc step given) where
    in_test : step < length tc.replies
    in_test = slice_get_within tc.replies step d.expected d.wanted

    test_is : test_at tests (i + 1) ≡ tc
    test_is = ap (λ n. get_or tests n no_test) (one_less i) ∙ get_or_from_slice_get tests i tc no_test there

    expected_is : expected_at tests (i + 1) (step + 1) ≡ d.expected
    expected_is = ap (λ (t : TestCase). get_or t.replies ((step + 1) - 1) []) test_is ∙ ap (λ n. get_or tc.replies n []) (one_less step) ∙ get_or_from_slice_get tc.replies step d.expected [] d.wanted

    run_is : run_up_to tests (Fail (i + 1) (step + 1) given) ≡ take i tests ++ up_to tc (step + 1) given ∷ []
    run_is = ap (λ n. take n tests ++ up_to (test_at tests (i + 1)) (step + 1) given ∷ []) (one_less i) ∙ ap (λ (t : TestCase). take i tests ++ up_to t (step + 1) given ∷ []) test_is

    pub names_difference : NamesDifference tests (Fail (i + 1) (step + 1) given)
    names_difference =
        let below = slice_get_within tests i tc there in
        let within = in_test in (
          record { some_test = omega arith; in_tests = omega arith; some_step = omega arith; in_test = subst (λ (t : TestCase). step + 1 ≤ length t.replies) (sym test_is) (omega arith) },
          λ e. d.differs (e ∙ expected_is),
        )

    pub fail_verdict : (plan : ToldPlan) → before.plan ≡ Some plan → IsVerdict plan.answers tests (Fail (i + 1) (step + 1) given)
    fail_verdict plan told =
        let within = in_test in
        let size = length-take-le step tc.replies (omega arith) in
        let answer = d.answers plan (keeps.plan ∙ told) in
        record {
          tests_before = i;
          steps_before = step;
          failed = tc;
          expected = d.expected;
          test_number = refl;
          step_number = refl;
          there = there;
          passed = passed.answers plan told;
          same = ap (take step) answer ∙ take_at (take step tc.replies) (given ∷ d.more) step size;
          given = ap (λ (l : List (List ℤ)). slice_get l step) answer ∙ at_seam (take step tc.replies) given d.more step size;
          wanted = d.wanted;
          differs = d.differs;
        }
      where
        at_seam : (front : List (List ℤ)) (x : List ℤ) (rest : List (List ℤ)) (n : ℕ) → length front ≡ n → slice_get (front ++ x ∷ rest) n ≡ Some x
        at_seam [] x rest n e = ap (slice_get (x ∷ rest)) (sym e)
        at_seam (y ∷ front) x rest zero e = let no : ⊥ = omega arith in absurd no
        at_seam (y ∷ front) x rest (suc n) e = at_seam front x rest n (omega arith)

    ran_to : Ran before after (turns (run_up_to tests (Fail (i + 1) (step + 1) given)))
    ran_to = subst (λ (l : List TestCase). Ran before after (turns l)) (sym run_is) (subst (Ran before after) (sym (turns-push (take i tests) (up_to tc (step + 1) given))) (ran_both passed.ran d.ran))

    pub fail_sends : Sends before after (lines_to tests (Fail (i + 1) (step + 1) given))
    fail_sends = ran_to.sent

    even_to : All IsEven (run_up_to tests (Fail (i + 1) (step + 1) given))
    even_to =
        let P : TestCase → Type 0 = IsEven in
        let within = in_test in
        let word : length tc.word ≡ length tc.replies = all_at IsEven tests i tc even there in
        let size : IsEven (up_to tc (step + 1) given) =
        length-take-le (step + 1) tc.word (omega arith) ∙ sym (length-append (take ((step + 1) - 1) tc.replies) (given ∷ []) ∙ ap (λ n. n + 1) (length-take-le ((step + 1) - 1) tc.replies (omega arith)) ∙ ap (λ n. n + 1) (one_less step)) in
        subst (All P) (sym run_is) (All-push P (take i tests) (up_to tc (step + 1) given) (All-take P i tests even) size)

    pub fail_gives : Gives before after (replies_to tests (Fail (i + 1) (step + 1) given))
    fail_gives = subst (λ (l : List (List ℤ)). IsAhead before.coming after.coming l) (replies-turns (run_up_to tests (Fail (i + 1) (step + 1) given)) even_to) ran_to.coming

    pub fail_exchange : (coming : List (List ℤ)) → before.coming ≡ Some coming → Sends before after (exchange (turns tests) coming)
    fail_exchange coming told =
        let within = in_test in
        let word : length tc.word ≡ length tc.replies = all_at IsEven tests i tc even there in
        let x = get_or tc.word step [] in
        let word_at : slice_get tc.word step ≡ Some x = slice_get-get_or tc.word step [] (omega arith) in
        let A = turns (take i tests) in
        let S = steps (take step tc.word) (take step tc.replies) in
        let R = steps (drop (step + 1) tc.word) (drop (step + 1) tc.replies) in
        let D = turns (drop (i + 1) tests) in
        let whole : turns tests ≡ (A ++ (Reset ∷ S)) ++ Step x d.expected ∷ (R ++ D) =
        all_turns ∙ ap (λ l. A ++ (Reset ∷ (l ++ D))) (steps_at tc.word tc.replies step x d.expected word_at d.wanted)
        ∙ ap (λ l. A ++ (Reset ∷ l)) (append_assoc S (Step x d.expected ∷ R) D) ∙ sym (append_assoc A (Reset ∷ S) (Step x d.expected ∷ (R ++ D))) in
        let test : Ran now after (Reset ∷ (S ++ Step x given ∷ [])) =
        subst (λ (l : List Turn). Ran now after (Reset ∷ l)) (ap (λ n. steps (take (step + 1) tc.word) (take n tc.replies ++ given ∷ [])) (one_less step) ∙ steps_to tc.word tc.replies step x d.expected word_at d.wanted given) d.ran in
        let ran : Ran before after ((A ++ (Reset ∷ S)) ++ Step x given ∷ []) =
        subst (Ran before after) (sym (append_assoc A (Reset ∷ S) (Step x given ∷ []))) (ran_both passed.ran test) in
        subst (λ (l : List Turn). Sends before after (exchange l coming)) (sym whole) (differs_exchange (A ++ (Reset ∷ S)) (R ++ D) x given d.expected coming ran d.differs told)

-- all tests passed
module _ (before now : SubjectState) (tests : List TestCase) (i : ℕ) (passed : HasPassed before now tests i) (last : length tests ≤ i) where
  pub pass_ran : Ran before now (turns tests)
  pass_ran = subst (λ (l : List TestCase). Ran before now (turns l)) (take_all i tests last) passed.ran

  pub pass_verdict : (plan : ToldPlan) → before.plan ≡ Some plan → Passes plan.answers tests
  pass_verdict plan told = subst (Passes plan.answers) (take_all i tests last) (passed.answers plan told)

  pub pass_gives : All IsEven tests → Gives before now (flat_map wanted tests)
  pass_gives even = subst (λ (l : List (List ℤ)). IsAhead before.coming now.coming l) (replies-turns tests even) pass_ran.coming

  pub pass_exchange : (coming : List (List ℤ)) → before.coming ≡ Some coming → Sends before now (exchange (turns tests) coming)
  pass_exchange coming told = ran_exchange coming pass_ran told
