-- How a store holds its tests.
use Rattle.std.specs.Prelude.{◌≡◌, ℕ, ◌+◌, ◌<◌, ℤ, List, [], ◌∷◌, ◌++◌, length, Contains}
use Rattle.std.specs.List.{All}
use Rattle.word_pool.specs.Words.{word, AreIds, ArePooled}

-- the word with number `i` is a prefix of one of the words with these ids
pub record IsCovered (words : List (List ℕ)) (ids : List ℕ) (i : ℕ) : Type 0 where
  pub test : ℕ
  pub among : Contains ids test
  pub rest : List ℕ
  pub goes_on : word words test ≡ word words i ++ rest

-- how the store holds them: every word is a prefix of a test or of the one that is entered
pub record IsStored (words : List (List ℕ)) (replies : List (List ℤ)) (ids : List ℕ) (at : ℕ) : Type 0 where
  pub pooled : ArePooled words
  pub one_each : length words ≡ length replies + 1
  pub are_ids : AreIds words ids
  pub at_inside : at < length words
  pub covered : (i : ℕ) → i < length words → IsCovered words (ids ++ at ∷ []) i

-- each test has a letter
abbrev pub HaveLetters : List (List ℕ) → List ℕ → Type 0
HaveLetters words ids = All (λ i. 0 < length (word words i)) ids
