-- A breadth-first search from the start, with letters ascending.
use Rattle.std.specs.Prelude.{◌≡◌, ◌≢◌, ℕ, ◌<◌, ◌⊎◌, List, length, slice_index_or}
use Rattle.fsm_core.specs.declared.breadth_first.Found.{Found}
use Rattle.fsm_core.specs.Machine.{Machine, next}

-- what a search found at a place of its list: a state, by a letter from the state at an earlier place
abbrev pub found_at : List Found → ℕ → Found
found_at found k = slice_index_or found k (record { state = 0; from = 0; letter = 0 })

-- the state found at a place
abbrev pub state_at : List Found → ℕ → ℕ
state_at found k = (found_at found k).state

-- the pair (i, a) of a place and a letter is tried before the pair (j, b)
abbrev pub IsTriedBefore : ℕ → ℕ → ℕ → ℕ → Type 0
IsTriedBefore i a j b = (i < j) ⊎ ((i ≡ j) × (a < b))

-- the letter `a` leads from the state at the place i to the one at the place k, and no earlier pair leads to that
pub record IsFoundFrom (m : Machine) (found : List Found) (i a k : ℕ) : Type 0 where
  pub inside : k < length found
  pub leads : state_at found k ≡ next m (state_at found i) a
  pub first : 0 < k → ¬ IsTriedBefore i a (found_at found k).from (found_at found k).letter

-- the states that are reached, in the order in which the search finds them: the start is the first, and each other
-- state is found by the first pair of a place before it and a letter that leads to it
pub record IsSearched (m : Machine) (found : List Found) : Type 0 where
  pub some : 0 < length found
  pub start : state_at found 0 ≡ 0
  pub inside : (k : ℕ) → k < length found → state_at found k < m.states
  pub once : (j k : ℕ) → j < k → k < length found → state_at found j ≢ state_at found k
  pub earlier : (k : ℕ) → 0 < k → k < length found → (found_at found k).from < k
  pub letter : (k : ℕ) → 0 < k → k < length found → (found_at found k).letter < m.letters
  pub leads : (k : ℕ) → 0 < k → k < length found →
      state_at found k ≡ next m (state_at found (found_at found k).from) (found_at found k).letter
  pub each : (i a : ℕ) → i < length found → a < m.letters → (k : ℕ) × IsFoundFrom m found i a k
  pub ordered : (j k : ℕ) → 0 < j → j < k → k < length found →
      IsTriedBefore (found_at found j).from (found_at found j).letter (found_at found k).from (found_at found k).letter
