-- The text of a verdict.
use Rattle.std.specs.Prelude.{ℕ, ℤ, pos, List, [], ◌∷◌, ◌++◌, codes}
use Rattle.std.specs.List.{flat_map}
use Rattle.strict_lines.specs.Lines.{Number, Word, line_text}
use Rattle.suite_model.specs.Text.{numbers}
use Rattle.subject.specs.Tests.{TestCase, failed_word}
use Rattle.test_subject.specs.Subject.{in_line}
use Rattle.test_subject.specs.Verdict.{expected_at}
use Rattle.test_subject.specs.declared.verdict.Verdict.{Verdict}
use Rattle.test_subject.specs.declared.verdict.Verdict.TheVariants.{Pass, Fail}

-- a word with the numbers of a reply; a reply with no numbers leaves the word alone
abbrev pub reply_line : List ℕ → List ℤ → List ℕ
reply_line keyword reply = line_text (Word keyword ∷ numbers reply)

-- the first line of a failure
abbrev pub fail_line : ℕ → ℕ → List ℕ
fail_line test step = line_text (Word (codes "fail") ∷ Word (codes "test") ∷ Number (pos test)
    ∷ Word (codes "step") ∷ Number (pos step) ∷ [])

-- a failure is printed with the inputs up to its step, the reply that was expected there, and that which was given
abbrev pub verdict_text : List TestCase → Verdict → List ℕ
verdict_text tests Pass = line_text (Word (codes "pass") ∷ [])
verdict_text tests (Fail test step given) = fail_line test step
    ++ (flat_map in_line (failed_word tests (record { test = test; step = step; given = given }))
    ++ (reply_line (codes "expected") (expected_at tests test step) ++ reply_line (codes "got") given))
