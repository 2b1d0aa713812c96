-- What the tests of the W-method (Chow 1978) and of the Wp-method (Fujiwara and others 1991) make sure of.
use Rattle.std.specs.Prelude.{◌≡◌, ℕ, ◌+◌, ◌-◌, ◌<◌, ◌≤◌, List, [], ◌++◌, length, Contains}
use Rattle.std.specs.List.{All, AllPairs}
use Rattle.input_classes.specs.Partition.{Partition, Covers, witnesses}
use Rattle.input_classes.specs.VectorSet.{VectorSet, Members, Word, IsWordOf}
use Rattle.subject.specs.Alike.{IsListed, LeadAlike}
use Rattle.subject.specs.Domain.{box}
use Rattle.subject.specs.Meaning.{Meaning, answer, after}
use Rattle.subject.specs.Tests.{TestCase}

-- two words agree on the marks: after both, each mark gets the same replies
abbrev pub AgreeOn : {S : Type 0} → Meaning S → List Word → Word → Word → Type 0
AgreeOn m marks p q = All (λ w. after m p w ≡ after m q w) marks

-- a state cover and a characterisation set of a plan: the words of the cover, among them the empty word, do not agree
-- on the marks, of which there is at least one, and no word leads differently from all of them
pub record AreCoverAndMarks {S : Type 0} (s : VectorSet) (m : Meaning S) (cover marks : List Word) : Type 0 where
  pub begins : Contains cover []
  pub cover_words : All (IsWordOf s) cover
  pub mark_words : All (IsWordOf s) marks
  pub some_mark : 0 < length marks
  pub whole : (w : Word) → IsWordOf s w → (IsListed s m cover w → ⊥) → ⊥
  pub apart : AllPairs (λ p q. AgreeOn m marks p q → ⊥) cover

-- marks of its own for each word of the cover: one at least, all of them among the marks, and no other word of the
-- cover agrees with it on them
pub record AreOwnMarks {S : Type 0} (m : Meaning S) (cover marks : List Word) (own : Word → List Word) : Type 0 where
  pub some : (p : Word) → Contains cover p → 0 < length (own p)
  pub among : (p : Word) → Contains cover p → All (Contains marks) (own p)
  pub apart : (p q : Word) → Contains cover p → Contains cover q → AgreeOn m (own p) p q → p ≡ q

-- after each word of the cover, each word of at most d + 1 vectors and each mark, the plan i answers as m does
pub record IsTested {S T : Type 0} (s : VectorSet) (m : Meaning S) (i : Meaning T) (cover marks : List Word)
    (d : ℕ) : Type 0 where
  pub model : AreCoverAndMarks s m cover marks
  pub answers : (p z w : Word) → Contains cover p → IsWordOf s z → length z ≤ d + 1 → Contains marks w
      → answer i (p ++ (z ++ w)) ≡ answer m (p ++ (z ++ w))

-- a test that begins with the word
pub record IsFront (tests : List TestCase) (u : Word) : Type 0 where
  pub test : TestCase
  pub rest : Word
  pub there : Contains tests test
  pub is : test.word ≡ u ++ rest

-- no product, of a word of the cover, a word of at most d + 1 vectors and a mark, is the front of no test
abbrev pub HaveProducts : VectorSet → List Word → List Word → ℕ → List TestCase → Type 0
HaveProducts s cover marks d tests =
    (p z w : Word) → Contains cover p → IsWordOf s z → length z ≤ d + 1 → Contains marks w → (IsFront tests (p ++ (z ++ w)) → ⊥) → ⊥

-- no product of either kind is the front of no test: with a word of at most d vectors and any mark, or with a word of
-- at most d + 1 vectors and a mark of the word of the cover to which it leads
pub record HaveOwnProducts {S : Type 0} (s : VectorSet) (m : Meaning S) (cover marks : List Word)
    (own : Word → List Word) (d : ℕ) (tests : List TestCase) : Type 0 where
  pub any : (p z w : Word) → Contains cover p → IsWordOf s z → length z ≤ d → Contains marks w
      → (IsFront tests (p ++ (z ++ w)) → ⊥) → ⊥
  pub its_own : (p z q w : Word) → Contains cover p → IsWordOf s z → length z ≤ d + 1
      → Contains cover q → LeadAlike s m (p ++ z) q → Contains (own q) w
      → (IsFront tests (p ++ (z ++ w)) → ⊥) → ⊥

-- the test is a word of the set, and the plan's replies are expected
pub record IsAnswered {S : Type 0} (s : VectorSet) (m : Meaning S) (test : TestCase) : Type 0 where
  pub is_word : IsWordOf s test.word
  pub expected : test.replies ≡ answer m test.word

-- tests that either method makes for a model, a partition and a bound: over the witnesses, with the model's replies
pub record AreMethodTests {S : Type 0} (model : Meaning S) (partition : Partition) (bound : ℕ)
    (tests : List TestCase) : Type 0 where
  pub cover : List Word
  pub marks : List Word
  pub own : Word → List Word
  pub covers : Covers (box model partition) partition
  pub few : length cover ≤ bound
  pub are_marks : AreCoverAndMarks (Members (witnesses partition)) model cover marks
  pub are_own : AreOwnMarks model cover marks own
  pub products : HaveOwnProducts (Members (witnesses partition)) model cover marks own (bound - length cover) tests
  pub answered : All (IsAnswered (box model partition) model) tests
