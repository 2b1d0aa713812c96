-- Sets of words that are entered into a pool.
use Rattle.std.specs.Prelude.{◌≡◌, ℕ, ◌<◌, ◌≤◌, List, ◌++◌, length, Contains, sum_by}
use Rattle.word_pool.specs.Words.{word, IsPrefix}

-- the words of a set were entered into a pool, and only prefixes of them
pub record AreEntered (old : List (List ℕ)) (P : List ℕ → Type 0) (new : List (List ℕ)) : Type 0 where
  pub more : length old ≤ length new
  pub each : (w : List ℕ) → P w → Contains new w
  pub only : (i : ℕ) → length old ≤ i → i < length new → (w : List ℕ) × (P w × IsPrefix (word new i) w)

-- w is the word u and one of the first n marks
abbrev pub IsMarkAfter : List ℕ → List (List ℕ) → ℕ → List ℕ → Type 0
IsMarkAfter u marks n w = (k : ℕ) × ((k < n) × (w ≡ u ++ word marks k))

-- how many letters the words have together
abbrev pub letters_of : List (List ℕ) → ℕ
letters_of words = sum_by (λ w. length w) words
