-- The steps of a suite's tests, with the vectors and replies that stand there.
use Rattle.std.proofs.Common.{◌≡◌, ℕ, ◌<◌, ◌≤◌, ℤ, List, [], length, take, get_or, Some, sym, ap, ◌∙◌, subst, arith, slice_get, option_map}
use Rattle.std.specs.List.{All}
use Rattle.std.proofs.lemmas.List.{get_or-take, get_or_read, length-take, length-map}
use Rattle.std.proofs.lemmas.List.Elements.{All-get_or, All-map, All-weaker}
use Rattle.std.proofs.lemmas.Option.{slice_get_within, slice_get-get_or, get_or_from_slice_get, slice_get-map}
use Rattle.lin_form.specs.Signature.{IsInInputRanges}
use Rattle.suite_words.specs.Cover.{AreLetters}
use Rattle.subject.specs.Suite.{SuiteParts, Test, in_vectors, test_case, tests_of}
use Rattle.subject.specs.Tests.{TestCase}
use Rattle.suite_model.specs.Suite.{IsSuite}

-- what holds of each element holds of the one at a place
pub all_at : {X : Type 0} (P : X → Type 0) (xs : List X) (i : ℕ) (x : X) → All P xs → slice_get xs i ≡ Some x → P x
all_at P xs i x all there = subst P (get_or_from_slice_get xs i x x there) (All-get_or P xs i x (slice_get_within xs i x there) all)

-- a letter that was put
letter_at : (t : Test) (count : ℕ) (put : List ℕ) (step letter : ℕ) → count ≡ length t.letters → take count put ≡ t.letters → step < count → letter ≡ get_or put step 0 → slice_get t.letters step ≡ Some letter
letter_at t count put step letter size front inside read =
    let value : get_or t.letters step 0 ≡ letter = sym (ap (λ x. get_or x step 0) front) ∙ get_or-take count put step 0 inside ∙ sym read in
    slice_get-get_or t.letters step 0 (omega arith) ∙ ap (λ x. Some x) value

-- there is room for the letters that were put
pub letters_in : (t : Test) (count : ℕ) (put : List ℕ) → count ≡ length t.letters → take count put ≡ t.letters → count ≤ length put
letters_in t count put size front = omega (arith, length-take count put, ap length front, size)

-- a test of a suite
module _ (s : SuiteParts) (suite : IsSuite s) (test : ℕ) (t : Test) (there : slice_get s.tests test ≡ Some t) where
  pub test_there : slice_get (tests_of s) test ≡ Some (test_case s.classes t)
  test_there = slice_get-map (test_case s.classes) s.tests test ∙ ap (option_map (test_case s.classes)) there

  pub as_many : length t.replies ≡ length t.letters
  as_many = all_at (λ (u : Test). length u.replies ≡ length u.letters) s.tests test t suite.one_each there

  -- a letter of it, and the item of the classes that was read for it
  module _ (count : ℕ) (put : List ℕ) (size : count ≡ length t.letters) (front : take count put ≡ t.letters) (step letter : ℕ) (inside : step < count) (read : letter ≡ get_or put step 0) where
    pub class_in : letter < length s.classes
    class_in = all_at (λ a. a < length s.classes) t.letters step letter (all_at (λ (u : Test). AreLetters (length s.classes) u.letters) s.tests test t suite.letters there) (letter_at t count put step letter size front inside read)

    module _ (seen : List (List ℤ)) (item : List ℤ) (same : seen ≡ s.classes) (is : item ≡ get_or seen letter item) where
      item_is : item ≡ get_or s.classes letter []
      item_is = get_or_read s.classes letter item class_in (is ∙ ap (λ x. get_or x letter item) same) []

      -- it is the vector that stands there
      pub item_at : slice_get (in_vectors s.classes t.letters) step ≡ Some item
      item_at =
          slice_get-map (λ a. get_or s.classes a []) t.letters step ∙ ap (option_map (λ a. get_or s.classes a [])) (letter_at t count put step letter size front inside read)
          ∙ ap (λ x. Some x) (sym item_is)

      pub item_in : IsInInputRanges s.signature.inputs item
      item_in = subst (IsInInputRanges s.signature.inputs) (sym item_is) (All-get_or (IsInInputRanges s.signature.inputs) s.classes letter [] class_in suite.vectors)

-- one reply is expected for each vector
pub one_for_each : (s : SuiteParts) → IsSuite s → All (λ (t : TestCase). length t.word ≡ length t.replies) (tests_of s)
one_for_each s suite =
    All-map (λ (t : TestCase). length t.word ≡ length t.replies) (test_case s.classes) s.tests
    (All-weaker (λ (t : Test). length t.replies ≡ length t.letters) (λ (t : Test). length (in_vectors s.classes t.letters) ≡ length t.replies)
    (λ t e. length-map t.letters (λ a. get_or s.classes a []) ∙ sym e) s.tests suite.one_each)
