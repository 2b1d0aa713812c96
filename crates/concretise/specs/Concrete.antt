-- The suite of a plan's answers to words of letters.
use Rattle.std.specs.Prelude.{ℕ, ◌+◌, ◌-◌, ◌<◌, ◌≤◌, List, length, map}
use Rattle.std.specs.List.{All}
use Rattle.input_classes.specs.Partition.{Partition, witnesses}
use Rattle.plan_replies.specs.Replies.{answered}
use Rattle.subject.specs.Meaning.{Meaning}
use Rattle.subject.specs.Shape.{LeadAlikeBy, answer_after}
use Rattle.subject.specs.Suite.{SuiteParts}
use Rattle.suite_words.specs.Cover.{AreLetters, IsCoverBy}
use Rattle.suite_words.specs.Marks.{AreMarksBy}
use Rattle.suite_words.specs.Tests.{AreTests}
use Rattle.word_pool.specs.Words.{word, words_at, AreIds, ArePrefixesOf}

-- the suite over the witnesses whose words are those with these ids, and whose replies are the plan's answers
abbrev pub suite_of : {S : Type 0} → Meaning S → Partition → ℕ → List (List ℕ) → List ℕ → List ℕ → List ℕ → SuiteParts
suite_of m r bound words cover marks tests = record {
  signature = m.signature;
  bound = bound;
  states = length cover;
  classes = witnesses r;
  cover = words_at words cover;
  marks = words_at words marks;
  tests = map (λ i. answered m (witnesses r) (word words i)) tests;
}

-- the ids of a suite's words: those of words of letters, each of which is a prefix of a test, and each test has a
-- letter
pub record AreSuiteWords (classes : ℕ) (words : List (List ℕ)) (cover marks tests : List ℕ) : Type 0 where
  pub letters : All (AreLetters classes) words
  pub cover_ids : AreIds words cover
  pub mark_ids : AreIds words marks
  pub test_ids : AreIds words tests
  pub some_letter : All (λ i. 0 < length (word words i)) tests
  pub prefixes : ArePrefixesOf words (words_at words tests)

-- the words of the W-method for a plan, a partition and a bound: its state cover, its marks and its tests
pub record AreWordsFor {S : Type 0} (m : Meaning S) (r : Partition) (bound : ℕ)
    (cover marks tests : List (List ℕ)) : Type 0 where
  pub few : length cover ≤ bound
  pub are_cover : IsCoverBy (length r.classes) (LeadAlikeBy m r) cover
  pub are_marks : AreMarksBy (answer_after m r cover) (length cover) (length r.classes) marks
  pub are_tests : AreTests (length r.classes) cover marks (bound - length cover + 1) tests
