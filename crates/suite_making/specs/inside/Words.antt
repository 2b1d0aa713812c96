-- The words of a reduced machine's suite.
use Rattle.std.specs.Prelude.{ℕ, ◌+◌, ◌-◌, List}
use Rattle.charset.specs.Marks.{AreMarks}
use Rattle.fsm_core.specs.Machine.{Machine}
use Rattle.state_cover.specs.Cover.{IsCover}
use Rattle.suite_words.specs.Tests.{AreTests}
use Rattle.word_pool.specs.Words.{words_at, AreIds, ArePrefixesOf}

-- the ids of the cover, the marks and the tests of a machine for a bound, in a pool that has only prefixes of tests
pub record AreWordsOf (g : Machine) (bound : ℕ) (words : List (List ℕ)) (cover marks tests : List ℕ) : Type 0 where
  pub cover_ids : AreIds words cover
  pub mark_ids : AreIds words marks
  pub test_ids : AreIds words tests
  pub prefixes : ArePrefixesOf words (words_at words tests)
  pub are_cover : IsCover g (words_at words cover)
  pub are_marks : AreMarks g (words_at words cover) (words_at words marks)
  pub are_tests : AreTests g.letters (words_at words cover) (words_at words marks) (bound - g.states + 1)
      (words_at words tests)
