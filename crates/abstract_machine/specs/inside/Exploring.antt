-- A breadth-first exploration of a plan on vectors.
use Rattle.std.specs.Prelude.{◌≡◌, ℕ, ◌+◌, ◌*◌, ◌<◌, ◌≤◌, ◌⊎◌, ℤ, List, [], ◌∷◌, ◌++◌, length, Some, slice_get, slice_index_or}
use Rattle.std.specs.List.{All}
use Rattle.subject.specs.Meaning.{Meaning, state_after}
use Rattle.word_pool.specs.Words.{word}
use Rattle.word_pool.specs.Order.{IsBefore, IsUpTo}
use Rattle.subject.specs.Suite.{in_vectors}

-- `n` is the place of the key, which stays where it was, or goes last where it was not there
pub record IsNumbered {K : Type 0} (old : List K) (key : K) (new : List K) (n : ℕ) : Type 0 where
  pub there : slice_get new n ≡ Some key
  pub grown : (new ≡ old) ⊎ ((new ≡ old ++ key ∷ []) × (n ≡ length old))

-- the state to which a word of letters leads
abbrev pub state_of : {S : Type 0} → List (List ℤ) → Meaning S → List ℕ → S
state_of classes m w = state_after m m.start (in_vectors classes w)

-- the row of the i-th state and the letter b: the number of the next state, whose word is not after that of the i-th
-- state and b, and the number of the reply
pub record IsRow {S : Type 0} (classes : List (List ℤ)) (m : Meaning S) (words : List (List ℕ)) (states : List S) (replies : List (List ℤ))
    (i b : ℕ) (row : ℕ × ℕ) : Type 0 where
  pub next : slice_get states row.0 ≡ Some (m.next (state_of classes m (word words i)) (slice_index_or classes b []))
  pub reply : slice_get replies row.1 ≡ Some (m.reply (state_of classes m (word words i)) (slice_index_or classes b []))
  pub upto : IsUpTo (word words row.0) (word words i ++ b ∷ [])

-- the states found so far, and the rows of those before the place `at` and of the letters below `a` at it
pub record IsExploring {S : Type 0} (classes : List (List ℤ)) (m : Meaning S) (states : List S) (replies : List (List ℤ))
    (rows : List (ℕ × ℕ)) (at a : ℕ) : Type 0 where
  pub words : List (List ℕ)
  pub size : length words ≡ length states
  pub some : 0 < length states
  pub upto : at ≤ length states
  pub few : length states ≤ 1024
  pub rows_size : length rows ≡ at * length classes + a
  pub root : word words 0 ≡ []
  pub letters : (i : ℕ) → i < length words → All (λ b. b < length classes) (word words i)
  pub leads : (i : ℕ) → i < length words → slice_get states i ≡ Some (state_of classes m (word words i))
  pub done : (i b : ℕ) → b < length classes → i * length classes + b < length rows
      → IsRow classes m words states replies i b (slice_index_or rows (i * length classes + b) (0, 0))
  pub ascending : (i j : ℕ) → i < j → j < length words → IsBefore (word words i) (word words j)
  pub tried : at < length words → (j : ℕ) → j < length words → IsBefore (word words j) (word words at ++ a ∷ [])
