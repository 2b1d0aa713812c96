-- A breadth-first search under way: which states are found, and what was tried.
use Rattle.std.specs.Prelude.{◌≡◌, ◌≢◌, ℕ, ◌+◌, ◌<◌, Bool, true, false, List, length, sum_by, slice_index_or}
use Rattle.fsm_core.specs.declared.breadth_first.Found.{Found}
use Rattle.fsm_core.specs.Machine.{Machine, next}
use Rattle.fsm_core.specs.Answers.{IsReached}
use Rattle.fsm_core.specs.Search.{found_at, state_at, IsFoundFrom, IsTriedBefore}

-- 1 where a state is not found
abbrev pub unfound : Bool → ℕ
unfound true = 0
unfound false = 1

-- how many states are not found
abbrev pub missing : List Bool → ℕ
missing flags = sum_by unfound flags

-- the state s is found
abbrev pub IsFound : List Bool → ℕ → Type 0
IsFound flags s = slice_index_or flags s false ≡ true

-- the pairs of a place and a letter before the pair (at, a) were tried, and `flags` has the states found
pub record IsSearch (m : Machine) (flags : List Bool) (found : List Found) (at a : ℕ) : Type 0 where
  pub size : length flags ≡ m.states
  pub some : 0 < length found
  pub start : state_at found 0 ≡ 0
  pub inside : (k : ℕ) → k < length found → state_at found k < m.states
  pub reached : (k : ℕ) → k < length found → IsReached m (state_at found k)
  pub queued : (s : ℕ) → s < m.states → IsFound flags s → (k : ℕ) × ((k < length found) × (state_at found k ≡ s))
  pub known : (k : ℕ) → k < length found → IsFound flags (state_at found k)
  pub counted : missing flags + length found ≡ m.states
  pub once : (j k : ℕ) → j < k → k < length found → state_at found j ≢ state_at found k
  pub earlier : (k : ℕ) → 0 < k → k < length found → (found_at found k).from < k
  pub letter : (k : ℕ) → 0 < k → k < length found → (found_at found k).letter < m.letters
  pub leads : (k : ℕ) → 0 < k → k < length found →
      state_at found k ≡ next m (state_at found (found_at found k).from) (found_at found k).letter
  pub each : (i b : ℕ) → i < length found → b < m.letters → IsTriedBefore i b at a → (k : ℕ) × IsFoundFrom m found i b k
  pub latest : (k : ℕ) → 0 < k → k < length found → IsTriedBefore (found_at found k).from (found_at found k).letter at a
  pub ordered : (j k : ℕ) → 0 < j → j < k → k < length found →
      IsTriedBefore (found_at found j).from (found_at found j).letter (found_at found k).from (found_at found k).letter
