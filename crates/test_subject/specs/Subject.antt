-- What a subject under test tells, and how its calls change that. It may tell a plan, the replies that come, and what was
-- sent, each apart from the others.
use Rattle.std.specs.Prelude.{◌≡◌, ℕ, ◌≤◌, ℤ, List, [], ◌∷◌, ◌++◌, length, take, codes, Option, Some, None, Result, Ok, Err, IsSome}
use Rattle.std.specs.Option.{ForSome}
use Rattle.lin_form.specs.declared.signature.Signature.{Signature}
use Rattle.lin_form.specs.Signature.{IsInInputRanges}
use Rattle.input_classes.specs.VectorSet.{Word}
use Rattle.strict_lines.specs.Lines.{Word as word, line_text}
use Rattle.test_world.specs.Growth.{IsLonger}
use Rattle.suite_model.specs.Text.{numbers}
use Rattle.subject.specs.Domain.{IsFitting}
use Rattle.subject.specs.Meaning.{Meaning, answer, answer_from}
use Rattle.subject.specs.Tests.{Answers}

-- a plan, as it is told: its signature, and its replies to each word from its start
pub record ToldPlan : Type 0 where
  pub signature : Signature
  pub answers : Answers

-- a subject: its plan, if it tells one, and then the replies of that plan to each word from the state that the subject is
-- in; the replies that the next steps give, whatever their inputs, if it tells them; the bytes that were sent, if it tells
-- them; and how many of its calls have failed, a number that stands still at the greatest count
pub record SubjectState : Type 0 where
  pub plan : Option ToldPlan
  pub here : Answers
  pub coming : Option (List (List ℤ))
  pub sent : Option (List ℕ)
  pub faults : ℕ

-- the same plan, told as before; and no fewer faults
pub record Keeps (before after : SubjectState) : Type 0 where
  pub plan : after.plan ≡ before.plan
  pub later : before.faults ≤ after.faults

-- each vector gets one reply
abbrev pub AnswersEach : Answers → Type 0
AnswersEach answers = (w : Word) → length (answers w) ≡ length w

-- where a plan is told: it is in its start
abbrev pub IsAtStart : SubjectState → Type 0
IsAtStart subject = ForSome subject.plan (λ plan. (w : Word) → subject.here w ≡ plan.answers w)

-- where a plan is told: the vector is in its ranges
abbrev pub MayTake : SubjectState → List ℤ → Type 0
MayTake subject input = ForSome subject.plan (λ plan. IsInInputRanges plan.signature.inputs input)

-- where a plan is told: its signature fits
abbrev pub Fits : Signature → SubjectState → Type 0
Fits signature subject = ForSome subject.plan (λ plan. IsFitting signature plan.signature)

-- where a plan is told: it replied and moved on by the vector
abbrev pub Moves : SubjectState → SubjectState → List ℤ → List ℤ → Type 0
Moves before after input reply =
    IsSome before.plan → (w : Word) → before.here (input ∷ w) ≡ reply ∷ after.here w

-- the first list, where it is told, has these in front of the second one, which is told as the first
abbrev pub IsAhead : {A : Type 0} → Option (List A) → Option (List A) → List A → Type 0
IsAhead None None front = Unit {0}
IsAhead None (Some after) front = ⊥
IsAhead (Some before) None front = ⊥
IsAhead (Some before) (Some after) front = before ≡ front ++ after

-- of the replies that come these were given
abbrev pub Gives : SubjectState → SubjectState → List (List ℤ) → Type 0
Gives before after replies = IsAhead before.coming after.coming replies

-- exactly these bytes were sent
abbrev pub Sends : SubjectState → SubjectState → List ℕ → Type 0
Sends before after bytes = IsLonger before.sent after.sent bytes

-- some number of these bytes were sent, from the front
abbrev pub SendsPrefix : SubjectState → SubjectState → List ℕ → Type 0
SendsPrefix before after bytes = (n : ℕ) × (n ≤ length bytes) × Sends before after (take n bytes)

-- at Ok all of these bytes were sent, at Err a prefix of them
abbrev pub SendsBy : {T E : Type 0} → SubjectState → SubjectState → List ℕ → Result T E → Type 0
SendsBy before after bytes (Ok value) = Sends before after bytes
SendsBy before after bytes (Err error) = SendsPrefix before after bytes

-- the line of a reset, and that of a step
abbrev pub reset_line : List ℕ
reset_line = line_text (word (codes "reset") ∷ [])

abbrev pub in_line : List ℤ → List ℕ
in_line input = line_text (word (codes "in") ∷ numbers input)

-- a plan in one of its states, as a subject: it tells the plan alone, and has no faults
abbrev pub plan_in : {S : Type 0} → Meaning S → S → SubjectState
plan_in m s = record {
  plan = Some (record { signature = m.signature; answers = answer m });
  here = answer_from m s;
  coming = None;
  sent = None;
  faults = 0;
}
