-- What passes between a runner of tests and a subject: resets, and steps with their replies.
use Rattle.std.specs.Prelude.{ℕ, ◌-◌, ℤ, List, [], ◌∷◌, ◌++◌, take, if◌then◌else◌}
use Rattle.std.specs.List.{flat_map}
use Rattle.std.specs.Cmp.Lexicographic.{pointwise}
use Rattle.std.specs.Ordering.{int_eq}
use Rattle.input_classes.specs.VectorSet.{Word}
use Rattle.subject.specs.Tests.{TestCase}
use Rattle.test_subject.specs.Subject.{reset_line, in_line}
use Rattle.test_subject.specs.Verdict.{test_at}
use Rattle.test_subject.specs.declared.verdict.Verdict.{Verdict}
use Rattle.test_subject.specs.declared.verdict.Verdict.TheVariants.{Pass, Fail}

-- a reset, or a step: its input vector and the reply
pub data Turn : Type 0 where
  Reset : Turn
  Step : List ℤ → List ℤ → Turn

abbrev pub turn_line : Turn → List ℕ
turn_line Reset = reset_line
turn_line (Step input reply) = in_line input

-- the lines that are sent in these turns
abbrev pub lines : List Turn → List ℕ
lines turns = flat_map turn_line turns

-- the steps of a word with these replies
abbrev pub steps : Word → List (List ℤ) → List Turn
steps [] given = []
steps (x ∷ word) [] = []
steps (x ∷ word) (reply ∷ given) = Step x reply ∷ steps word given

-- a test from a reset on, and all tests one after another
abbrev pub test_turns : TestCase → List Turn
test_turns test = Reset ∷ steps test.word test.replies

abbrev pub turns : List TestCase → List Turn
turns tests = flat_map test_turns tests

-- the front of a test up to a step, counted from 1, with the reply that was given there
abbrev pub up_to : TestCase → ℕ → List ℤ → TestCase
up_to test step given = record {
  word = take step test.word;
  replies = take (step - 1) test.replies ++ given ∷ [];
}

-- the tests as they were run up to a verdict, with the replies that were given
abbrev pub run_up_to : List TestCase → Verdict → List TestCase
run_up_to tests Pass = tests
run_up_to tests (Fail test step given) = take (test - 1) tests ++ up_to (test_at tests test) step given ∷ []

-- the lines that are sent, and the replies, up to a verdict
abbrev pub lines_to : List TestCase → Verdict → List ℕ
lines_to tests verdict = lines (turns (run_up_to tests verdict))

abbrev pub replies_to : List TestCase → Verdict → List (List ℤ)
replies_to tests verdict = flat_map (λ test. test.replies) (run_up_to tests verdict)

-- the lines that are sent where these replies come to turns with the expected ones: up to and with the first step to which
-- another reply comes, or none, or all lines
abbrev pub exchange : List Turn → List (List ℤ) → List ℕ
exchange [] coming = []
exchange (Reset ∷ turns) coming = reset_line ++ exchange turns coming
exchange (Step input expected ∷ turns) [] = in_line input
exchange (Step input expected ∷ turns) (reply ∷ coming) =
    in_line input ++ (if pointwise int_eq reply expected then exchange turns coming else [])
