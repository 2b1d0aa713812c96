-- The rules that every suite keeps.
use Rattle.std.specs.Prelude.{◌≡◌, ℕ, ◌<◌, length, take, Contains}
use Rattle.std.specs.List.{All}
use Rattle.lin_form.specs.Signature.{IsInInputRanges}
use Rattle.suite_words.specs.Cover.{AreLetters}
use Rattle.subject.specs.Suite.{SuiteParts, Test}

-- each witness is in the ranges, each letter is a class, each test has a letter and one reply for each, each reply has
-- one number for each output, and equal prefixes of two tests carry equal replies
pub record IsSuite (s : SuiteParts) : Type 0 where
  pub vectors : All (IsInInputRanges s.signature.inputs) s.classes
  pub letters : All (λ (t : Test). AreLetters (length s.classes) t.letters) s.tests
  pub cover_letters : All (AreLetters (length s.classes)) s.cover
  pub mark_letters : All (AreLetters (length s.classes)) s.marks
  pub some_letter : All (λ (t : Test). 0 < length t.letters) s.tests
  pub one_each : All (λ (t : Test). length t.replies ≡ length t.letters) s.tests
  pub counts : All (λ (t : Test). All (λ r. length r ≡ length s.signature.outputs) t.replies) s.tests
  pub agree : (t u : Test) (n : ℕ) → Contains s.tests t → Contains s.tests u →
      take n t.letters ≡ take n u.letters → take n t.replies ≡ take n u.replies
