-- A state cover: of all words of letters the first of each kind.
use Rattle.std.specs.Prelude.{ℕ, ◌<◌, List, All, AllPairs, Contains}
use Rattle.word_pool.specs.Order.{IsBefore}

-- each letter of the word is below c
abbrev pub AreLetters : ℕ → List ℕ → Type 0
AreLetters c w = All (λ a. a < c) w

-- `p` is the first of its kind in shortlex order: no word of letters that stands before it is like it
pub record IsFirstOfItsKind (c : ℕ) (Alike : List ℕ → List ℕ → Type 0) (p : List ℕ) : Type 0 where
  pub letters : AreLetters c p
  pub first : (u : List ℕ) → AreLetters c u → IsBefore u p → ¬ Alike u p

-- exactly the words that are the first of their kind, in shortlex order
pub record IsCoverBy (c : ℕ) (Alike : List ℕ → List ℕ → Type 0) (cover : List (List ℕ)) : Type 0 where
  pub only : All (IsFirstOfItsKind c Alike) cover
  pub each : (p : List ℕ) → IsFirstOfItsKind c Alike p → Contains cover p
  pub ordered : AllPairs IsBefore cover
