-- Two orders of words, and the words at which a pool ends.
use Rattle.std.specs.Prelude.{◌≡◌, ℕ, ◌<◌, ◌⊎◌, List, [], ◌∷◌, length, Contains, All, AllPairs}
use Rattle.word_pool.specs.Words.{word, IsProperPrefix}

-- `u` stands before `w` in lexicographic order, where a word stands before all that it is a proper prefix of
abbrev pub IsBelow : List ℕ → List ℕ → Type 0
IsBelow u [] = ⊥
IsBelow [] (b ∷ w) = Unit {0}
IsBelow (a ∷ u) (b ∷ w) = (a < b) ⊎ ((a ≡ b) × IsBelow u w)

-- `u` stands before `w` in shortlex order: shorter words come first, and those of one length in lexicographic order
abbrev pub IsBefore : List ℕ → List ℕ → Type 0
IsBefore u w = (length u < length w) ⊎ ((length u ≡ length w) × IsBelow u w)

-- `u` is `w` or stands before it in shortlex order
abbrev pub IsUpTo : List ℕ → List ℕ → Type 0
IsUpTo u w = (u ≡ w) ⊎ IsBefore u w

-- the word `i` is a proper prefix of no word
pub record IsEnd (ws : List (List ℕ)) (i : ℕ) : Type 0 where
  pub inside : i < length ws
  pub longest : (k : ℕ) → k < length ws → ¬ IsProperPrefix (word ws i) (word ws k)

-- the ids of exactly the words that are a proper prefix of no word, in ascending lexicographic order
pub record AreEnds (ws : List (List ℕ)) (ids : List ℕ) : Type 0 where
  pub ends : All (IsEnd ws) ids
  pub each : (i : ℕ) → IsEnd ws i → Contains ids i
  pub ascending : AllPairs (λ i j. IsBelow (word ws i) (word ws j)) ids
