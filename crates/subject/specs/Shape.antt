-- The suite that a model, a partition and a bound determine, by the W-method (Chow 1978) or by the Wp-method (Fujiwara
-- and others 1991), over the classes' witnesses (Huang and Peleska).
use Rattle.std.specs.Prelude.{◌≡◌, ◌≢◌, ℕ, ◌+◌, ◌-◌, ◌<◌, ◌≤◌, ◌⊎◌, ℤ, List, [], ◌++◌, length, map, take, Some, slice_get}
use Rattle.std.specs.List.{All}
use Rattle.input_classes.specs.Partition.{Partition, witnesses}
use Rattle.word_pool.specs.Words.{word}
use Rattle.suite_words.specs.Cover.{AreLetters, IsCoverBy}
use Rattle.suite_words.specs.Marks.{AgreeOnMarks, AreMarksBy}
use Rattle.suite_words.specs.Tests.{IsProduct, AreLongest, AreTests}
use Rattle.subject.specs.Alike.{LeadAlike, HasRank}
use Rattle.subject.specs.Domain.{box}
use Rattle.subject.specs.Meaning.{Meaning, answer, after}
use Rattle.subject.specs.Suite.{SuiteParts, Test, in_vectors}

-- two words of letters lead alike in the model
abbrev pub LeadAlikeBy : {S : Type 0} → Meaning S → Partition → List ℕ → List ℕ → Type 0
LeadAlikeBy model partition u w =
    LeadAlike (box model partition) model (in_vectors (witnesses partition) u) (in_vectors (witnesses partition) w)

-- what the model answers to a word of letters after the word with a number in a list of words of letters
abbrev pub answer_after : {S : Type 0} → Meaning S → Partition → List (List ℕ) → ℕ → List ℕ → List (List ℤ)
answer_after model partition cover i w =
    after model (in_vectors (witnesses partition) (word cover i)) (in_vectors (witnesses partition) w)

-- all of the suite but which tests it has: the model's signature, the bound, the witnesses, the rank, the cover, the
-- marks, and the model's reply to each test. The partition is meant to be one (`IsPartition`). The marks tell as many
-- cover words apart as there are states; where members of a class do not act alike in the model there may be fewer cover
-- words, and then no suite has the shape
pub record IsSuiteFor {S : Type 0} (model : Meaning S) (partition : Partition) (bound : ℕ)
    (suite : SuiteParts) : Type 0 where
  pub signature : suite.signature ≡ model.signature
  pub same_bound : suite.bound ≡ bound
  pub classes : suite.classes ≡ witnesses partition
  pub rank : HasRank (box model partition) model suite.states
  pub few : suite.states ≤ bound
  pub cover : IsCoverBy (length partition.classes) (LeadAlikeBy model partition) suite.cover
  pub marks : AreMarksBy (answer_after model partition suite.cover) suite.states (length partition.classes) suite.marks
  pub replies : All (λ (test : Test). test.replies ≡ answer model (in_vectors suite.classes test.letters)) suite.tests

-- the suite of the W-method: the tests are the products of a cover word, a word of at most one letter more than the
-- bound leaves, and a mark
pub record HasShape {S : Type 0} (model : Meaning S) (partition : Partition) (bound : ℕ)
    (suite : SuiteParts) : Type 0 where
  pub suits : IsSuiteFor model partition bound suite
  pub tests : AreTests (length partition.classes) suite.cover suite.marks (bound - suite.states + 1)
      (map (λ (test : Test). test.letters) suite.tests)

-- w is the first of the marks that is answered differently after the cover words p and q
pub record IsFirstApart (f : ℕ → List ℕ → List (List ℤ)) (marks : List (List ℕ)) (p q : ℕ) (w : List ℕ) : Type 0 where
  pub place : ℕ
  pub there : slice_get marks place ≡ Some w
  pub differ : f p w ≢ f q w
  pub agree_before : AgreeOnMarks f (take place marks) p q

-- w is an own mark of the cover word p of n: the first mark that tells it from some other cover word; of one cover word
-- alone, the empty word
abbrev pub IsOwnMark : (ℕ → List ℕ → List (List ℤ)) → ℕ → List (List ℕ) → ℕ → List ℕ → Type 0
IsOwnMark f n marks p w = ((n ≡ 1) × (w ≡ [])) ⊎ ((q : ℕ) × ((q < n) × ((q ≢ p) × IsFirstApart f marks p q w)))

-- t is a cover word, a word of at most d letters, and an own mark of the cover word to which these two lead
pub record IsOwnProduct (c : ℕ) (Alike : List ℕ → List ℕ → Type 0) (f : ℕ → List ℕ → List (List ℤ)) (n : ℕ)
    (cover marks : List (List ℕ)) (d : ℕ) (t : List ℕ) : Type 0 where
  pub p : ℕ
  pub q : ℕ
  pub z : List ℕ
  pub w : List ℕ
  pub in_cover : p < length cover
  pub letters : AreLetters c z
  pub short : length z ≤ d
  pub reached : q < length cover
  pub alike : Alike (word cover p ++ z) (word cover q)
  pub own : IsOwnMark f n marks q w
  pub is : t ≡ word cover p ++ (z ++ w)

-- a product of either kind, where d is what the bound leaves: with at most d letters and any mark, or with at most one
-- letter more and an own mark
abbrev pub IsWpProduct : ℕ → (List ℕ → List ℕ → Type 0) → (ℕ → List ℕ → List (List ℤ)) → ℕ
    → List (List ℕ) → List (List ℕ) → ℕ → List ℕ → Type 0
IsWpProduct c Alike f n cover marks d t = IsProduct c cover marks d t ⊎ IsOwnProduct c Alike f n cover marks (d + 1) t

-- the suite of the Wp-method
pub record HasWpShape {S : Type 0} (model : Meaning S) (partition : Partition) (bound : ℕ)
    (suite : SuiteParts) : Type 0 where
  pub suits : IsSuiteFor model partition bound suite
  pub tests : AreLongest (IsWpProduct (length partition.classes) (LeadAlikeBy model partition)
      (answer_after model partition suite.cover) suite.states suite.cover suite.marks (bound - suite.states))
      (map (λ (test : Test). test.letters) suite.tests)
