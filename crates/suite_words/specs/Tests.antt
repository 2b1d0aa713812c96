-- The tests of the W-method (Chow 1978): cover word, middle word, mark.
use Rattle.std.specs.Prelude.{◌≡◌, ℕ, ◌<◌, ◌≤◌, List, ◌++◌, length, All, AllPairs, Contains}
use Rattle.word_pool.specs.Words.{word, IsProperPrefix}
use Rattle.word_pool.specs.Order.{IsBelow}
use Rattle.suite_words.specs.Cover.{AreLetters}

-- w is the word u, a word of at most d of the c letters, and a mark
pub record IsProductAfter (u : List ℕ) (c : ℕ) (marks : List (List ℕ)) (d : ℕ) (w : List ℕ) : Type 0 where
  pub z : List ℕ
  pub k : ℕ
  pub letters : AreLetters c z
  pub short : length z ≤ d
  pub mark : k < length marks
  pub is : w ≡ u ++ (z ++ word marks k)

-- w is a product: a cover word, a word of at most d of the c letters, and a mark
pub record IsProduct (c : ℕ) (cover marks : List (List ℕ)) (d : ℕ) (w : List ℕ) : Type 0 where
  pub i : ℕ
  pub in_cover : i < length cover
  pub after : IsProductAfter (word cover i) c marks d w

-- w is one of a set of words, and a proper prefix of none of them
pub record IsLongest (P : List ℕ → Type 0) (w : List ℕ) : Type 0 where
  pub product : P w
  pub longest : (u : List ℕ) → P u → ¬ IsProperPrefix w u

-- exactly the words of a set that are a proper prefix of none of them, each once, in ascending lexicographic order
pub record AreLongest (P : List ℕ → Type 0) (tests : List (List ℕ)) : Type 0 where
  pub only : All (IsLongest P) tests
  pub each : (w : List ℕ) → IsLongest P w → Contains tests w
  pub ascending : AllPairs IsBelow tests

-- the tests: the products that are a proper prefix of no product
abbrev pub AreTests : ℕ → List (List ℕ) → List (List ℕ) → ℕ → List (List ℕ) → Type 0
AreTests c cover marks d tests = AreLongest (IsProduct c cover marks d) tests
