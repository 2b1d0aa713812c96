-- The words of a search, entered into a pool one by one.
use Rattle.std.specs.Prelude.{◌≡◌, ℕ, ◌+◌, ◌<◌, ◌≤◌, List, [], ◌∷◌, ◌++◌, length}
use Rattle.fsm_core.specs.declared.breadth_first.Found.{Found}
use Rattle.fsm_core.specs.Search.{found_at}
use Rattle.word_pool.specs.Words.{word, words_at, AddsPrefixesOf, AreIds, Keeps}

-- the first n states that were found have their words: the empty word first, each other one letter more than the
-- word of the state that it was found from
pub record AreWordsOf (found : List Found) (words : List (List ℕ)) (n : ℕ) : Type 0 where
  pub size : length words ≡ n
  pub root : word words 0 ≡ []
  pub longer : (k : ℕ) → 0 < k → k < n →
      word words k ≡ word words (found_at found k).from ++ (found_at found k).letter ∷ []

-- these words are in the pool, and no others were added
pub record AreNamed (old : List (List ℕ)) (found : List Found) (new : List (List ℕ)) (ids : List ℕ) (n : ℕ) : Type 0 where
  pub are_words : AreWordsOf found (words_at new ids) n
  pub are_ids : AreIds new ids
  pub keeps : Keeps old new
  pub more : length old ≤ length new
  pub few : length new ≤ length old + n
  pub only : AddsPrefixesOf old (words_at new ids) new
