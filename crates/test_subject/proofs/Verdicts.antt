-- Verdicts on answers.
use Rattle.std.proofs.Common.{◌≡◌, List, length, refl, ap, subst, inl, inr}
use Rattle.std.specs.List.{All}
use Rattle.subject.specs.Tests.{Answers, TestCase, Passes, Failure}
use Rattle.subject.proofs.CallerLemmas.{passes_or_fails, excludes, one_failure}
use Rattle.test_subject.specs.Subject.{AnswersEach}
use Rattle.test_subject.specs.Verdict.{IsVerdict, NamesStep, NamesDifference}
use Rattle.test_subject.specs.declared.verdict.Verdict.{Verdict}
use Rattle.test_subject.specs.declared.verdict.Verdict.TheVariants.{Pass, Fail}

pub some_verdict : (answers : Answers) (tests : List TestCase) → AnswersEach answers → All (λ (t : TestCase). length t.replies ≡ length t.word) tests → (v : Verdict) × IsVerdict answers tests v
some_verdict answers tests each sizes =
    elim (passes_or_fails answers each tests sizes) [
      | inl passes ↦ (Pass, passes)
      | inr f ↦ (Fail f.0.test f.0.step f.0.given, f.1)
    ]

abbrev failed : Failure → Verdict
failed f = Fail f.test f.step f.given

pub one_verdict : (answers : Answers) (tests : List TestCase) (v w : Verdict) → IsVerdict answers tests v → IsVerdict answers tests w → v ≡ w
one_verdict answers tests Pass Pass h k = refl
one_verdict answers tests Pass (Fail test step given) h k = absurd (excludes answers tests _ k h)
one_verdict answers tests (Fail test step given) Pass h k = absurd (excludes answers tests _ h k)
one_verdict answers tests (Fail test step given) (Fail test' step' given') h k =
    ap failed (one_failure answers tests (record { test = test; step = step; given = given }) (record { test = test'; step = step'; given = given' }) h k)

pub pass_alone : (answers : Answers) (tests : List TestCase) (v : Verdict) → IsVerdict answers tests v → Passes answers tests → v ≡ Pass
pass_alone answers tests v h passes = one_verdict answers tests v Pass h passes

pub passes : (answers : Answers) (tests : List TestCase) (v : Verdict) → IsVerdict answers tests v → v ≡ Pass → Passes answers tests
passes answers tests v h e = subst (IsVerdict answers tests) e h

-- a verdict that names a difference names a step
pub names_step : (tests : List TestCase) (v : Verdict) → NamesDifference tests v → NamesStep tests v
names_step tests Pass h = tt
names_step tests (Fail test step given) h = h.0
