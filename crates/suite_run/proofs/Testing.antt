-- One test, step by step.
use Rattle.std.proofs.Common.{◌≡◌, ◌≢◌, ℕ, ◌+◌, ◌-◌, ◌≤◌, ℤ, List, [], ◌∷◌, ◌++◌, length, take, drop, Option, Some, refl, sym, ap, ◌∙◌, subst, arith, append_assoc, append-nil, slice_get, is_some, true}
use Rattle.std.proofs.lemmas.List.{take_all}
use Rattle.lin_form.specs.declared.signature.Signature.{Signature}
use Rattle.lin_form.specs.Range.{IsInRanges}
use Rattle.lin_form.specs.Signature.{IsInInputRanges}
use Rattle.subject.specs.Domain.{IsFitting}
use Rattle.subject.specs.Suite.{Test}
use Rattle.subject.specs.Tests.{TestCase}
use Rattle.test_subject.specs.Subject.{SubjectState, ToldPlan, Keeps, AnswersEach, Moves, Gives, Sends, SendsPrefix, in_line}
use Rattle.test_subject.specs.Exchange.{Turn, Reset, Step, steps, test_turns}
use Rattle.suite_run.specs.inside.Running.{Ran, Stopped, IsAtStep, Agrees, Differs}
use Rattle.suite_run.proofs.Turns.{one_more, cut_at, steps_to, steps_at}
use Rattle.suite_run.proofs.Running.{ran_both, ran_one, stopped_one, stopped_after}

pub one_less : (n : ℕ) → (n + 1) - 1 ≡ n
one_less n = omega arith

pub keeps_both : {a b c : SubjectState} → Keeps a b → Keeps b c → Keeps a c
keeps_both {a} {b} {c} h k = let early : a.faults ≤ b.faults = h.later in let late : b.faults ≤ c.faults = k.later in record { plan = k.plan ∙ h.plan; later = omega arith }

told_now : (before now : SubjectState) (plan : ToldPlan) → Keeps before now → before.plan ≡ Some plan → is_some now.plan ≡ true
told_now before now plan keeps told = ap (λ (o : Option ToldPlan). is_some o) (keeps.plan ∙ told)

empty : {X : Type 0} (xs : List X) → length xs ≡ 0 → xs ≡ []
empty [] e = refl
empty (x ∷ xs) e = let no : ⊥ = omega arith in absurd no

-- at a step of a test whose word and replies have these elements there
module _ (before now : SubjectState) (tc : TestCase) (step : ℕ) (x e : List ℤ) (at : IsAtStep before now tc step) (word_at : slice_get tc.word step ≡ Some x) (reply_at : slice_get tc.replies step ≡ Some e) (keeps : Keeps before now) where
  -- the call of the step fails
  pub step_stops : (after : SubjectState) → SendsPrefix now after (in_line x) → Stopped before after (test_turns tc)
  step_stops after sent =
      subst (λ (l : List Turn). Stopped before after (Reset ∷ l)) (sym (steps_at tc.word tc.replies step x e word_at reply_at))
      (stopped_after at.ran (stopped_one (Step x e) (steps (drop (step + 1) tc.word) (drop (step + 1) tc.replies)) sent))

  module _ (after : SubjectState) (g : List ℤ) (moves : Moves now after x g) (gives : Gives now after (g ∷ [])) (sends : Sends now after (in_line x)) where
    ran_on : Ran before after (Reset ∷ steps (take (step + 1) tc.word) (take step tc.replies ++ g ∷ []))
    ran_on = subst (λ (l : List Turn). Ran before after (Reset ∷ l)) (sym (steps_to tc.word tc.replies step x e word_at reply_at g)) (ran_both at.ran (ran_one (Step x g) gives sends))

    answers_on : (plan : ToldPlan) → before.plan ≡ Some plan → (v : List (List ℤ)) → plan.answers (take step tc.word ++ x ∷ v) ≡ take step tc.replies ++ g ∷ after.here v
    answers_on plan told v = at.answers plan told (x ∷ v) ∙ ap (λ l. take step tc.replies ++ l) (moves (told_now before now plan keeps told) v)

    -- its reply differs
    pub step_differs : g ≢ e → Differs before after tc step g
    step_differs differs = record {
      expected = e;
      wanted = reply_at;
      differs = differs;
      ran = subst (λ n. Ran before after (Reset ∷ steps (take (step + 1) tc.word) (take n tc.replies ++ g ∷ []))) (sym (one_less step)) ran_on;
      more = after.here (drop (step + 1) tc.word);
      answers = λ plan told. ap plan.answers (cut_at tc.word step x word_at) ∙ answers_on plan told (drop (step + 1) tc.word);
    }

    -- its reply is the expected one
    pub step_agrees : g ≡ e → IsAtStep before after tc (step + 1)
    step_agrees same =
        let front : take step tc.replies ++ g ∷ [] ≡ take (step + 1) tc.replies = ap (λ r. take step tc.replies ++ r ∷ []) same ∙ sym (one_more tc.replies step e reply_at) in
        record {
          ran = subst (λ (l : List (List ℤ)). Ran before after (Reset ∷ steps (take (step + 1) tc.word) l)) front ran_on;
          answers = λ plan told v.
              ap (λ w. plan.answers (w ++ v)) (one_more tc.word step x word_at) ∙ ap plan.answers (append_assoc (take step tc.word) (x ∷ []) v) ∙ answers_on plan told v
              ∙ sym (append_assoc (take step tc.replies) (g ∷ []) (after.here v)) ∙ ap (λ l. l ++ after.here v) front;
        }

-- after the last step
pub test_ends : (before now : SubjectState) (tc : TestCase) (step : ℕ) → IsAtStep before now tc step → length tc.word ≤ step → length tc.word ≡ length tc.replies → Keeps before now → (is_some now.plan ≡ true → AnswersEach now.here) → Agrees before now tc
test_ends before now tc step at last sizes keeps each =
    let words : take step tc.word ≡ tc.word = take_all step tc.word last in
    let replies : take step tc.replies ≡ tc.replies = take_all step tc.replies (omega arith) in
    record {
      ran = subst (λ (l : List (List ℤ)). Ran before now (Reset ∷ steps l tc.replies)) words (subst (λ (l : List (List ℤ)). Ran before now (Reset ∷ steps (take step tc.word) l)) replies at.ran);
      answers = λ plan told.
          let none : now.here [] ≡ [] = empty (now.here []) (each (told_now before now plan keeps told) []) in
          ap plan.answers (sym words ∙ sym (append-nil (take step tc.word))) ∙ at.answers plan told [] ∙ ap (λ l. take step tc.replies ++ l) none ∙ append-nil (take step tc.replies) ∙ replies;
    }

-- before the first step
pub test_starts : (before now : SubjectState) (tc : TestCase) → Ran before now (Reset ∷ []) → ((plan : ToldPlan) → before.plan ≡ Some plan → (w : List (List ℤ)) → now.here w ≡ plan.answers w) → IsAtStep before now tc 0
test_starts before now tc ran start = record { ran = ran; answers = λ plan told v. sym (start plan told v) }

pub no_test : Test
no_test = record { letters = []; replies = [] }

-- a vector of the suite is in the ranges of a plan that fits
pub in_plan : (model other : Signature) (x : List ℤ) → IsFitting model other → IsInInputRanges model.inputs x → IsInInputRanges other.inputs x
in_plan model other x fits inside = subst (λ (r : List (ℤ × ℤ)). IsInRanges r x) (sym fits.ranges) inside
