-- A suite as plain data, and the words of vectors for which its words of letters stand. A letter is the number of a
-- class, counted from 0.
use Rattle.std.specs.Prelude.{ℕ, ℤ, List, [], map, slice_index_or}
use Rattle.lin_form.specs.declared.signature.Signature.{Signature}
use Rattle.input_classes.specs.VectorSet.{Word}
use Rattle.subject.specs.Tests.{TestCase}

-- letters, with one reply for each
pub record Test : Type 0 where
  pub letters : List ℕ
  pub replies : List (List ℤ)

-- a signature, a bound, a number of states, the witnesses of the classes, the words of the cover, the marks, the tests
pub record SuiteParts : Type 0 where
  pub signature : Signature
  pub bound : ℕ
  pub states : ℕ
  pub classes : List (List ℤ)
  pub cover : List (List ℕ)
  pub marks : List (List ℕ)
  pub tests : List Test

-- the word of witnesses for which a word of letters stands
abbrev pub in_vectors : List (List ℤ) → List ℕ → Word
in_vectors classes letters = map (λ a. slice_index_or classes a []) letters

-- a test as a word of witnesses with its expected replies
abbrev pub test_case : List (List ℤ) → Test → TestCase
test_case classes test = record { word = in_vectors classes test.letters; replies = test.replies }

-- the tests of a suite in order
abbrev pub tests_of : SuiteParts → List TestCase
tests_of suite = map (test_case suite.classes) suite.tests
