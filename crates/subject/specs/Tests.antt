-- Tests, and what it means that they are passed: over the answers alone, a function from words to replies.
use Rattle.std.specs.Prelude.{◌≡◌, ◌≢◌, ℕ, ◌+◌, ◌-◌, ℤ, List, [], ◌∷◌, ◌++◌, take, Some, slice_get, slice_index_or}
use Rattle.std.specs.List.{All}
use Rattle.input_classes.specs.VectorSet.{Word}

-- the replies to each word
abbrev pub Answers : Type 0
Answers = Word → List (List ℤ)

-- a word with the replies that are expected; where there is not one reply for each vector, no plan passes it
pub record TestCase : Type 0 where
  pub word : Word
  pub replies : List (List ℤ)

-- the test is answered as expected
abbrev pub AnswersTest : Answers → TestCase → Type 0
AnswersTest answers test = answers test.word ≡ test.replies

-- every test is answered as expected
abbrev pub Passes : Answers → List TestCase → Type 0
Passes answers tests = All (AnswersTest answers) tests

-- a test and a step in it, both counted from 1, and a reply
pub record Failure : Type 0 where
  pub test : ℕ
  pub step : ℕ
  pub given : List ℤ

-- the first test, in order, that is not answered as expected, the first step in it where the replies differ, and the
-- reply given there
pub record IsFirstFailure (answers : Answers) (tests : List TestCase) (failure : Failure) : Type 0 where
  pub tests_before : ℕ
  pub steps_before : ℕ
  pub failed : TestCase
  pub expected : List ℤ
  pub test_number : failure.test ≡ tests_before + 1
  pub step_number : failure.step ≡ steps_before + 1
  pub there : slice_get tests tests_before ≡ Some failed
  pub passed : Passes answers (take tests_before tests)
  pub same : take steps_before (answers failed.word) ≡ take steps_before failed.replies
  pub given : slice_get (answers failed.word) steps_before ≡ Some failure.given
  pub wanted : slice_get failed.replies steps_before ≡ Some expected
  pub differs : failure.given ≢ expected

abbrev pub no_test : TestCase
no_test = record { word = []; replies = [] }

-- the word of a failure: the vectors of its test up to its step
abbrev pub failed_word : List TestCase → Failure → Word
failed_word tests failure = take failure.step (slice_index_or tests (failure.test - 1) no_test).word

-- two plans' answers to a word differ at its last vector and at no earlier one
pub record PartAtLast (first second : Answers) (word : Word) : Type 0 where
  pub front : Word
  pub last : List ℤ
  pub is : word ≡ front ++ last ∷ []
  pub same : first front ≡ second front
  pub differ : first word ≢ second word
