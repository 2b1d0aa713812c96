-- The machine whose states are the blocks of another.
use Rattle.std.specs.Prelude.{◌≡◌, ℕ, ◌+◌, ◌*◌, ◌<◌, ◌≤◌, List, length, slice_index, slice_index_or}
use Rattle.fsm_core.specs.Machine.{Machine, next, number}

-- each block has a representative, which is a state in it
pub record AreRepresentatives (blocks representatives : List ℕ) : Type 0 where
  pub few : length representatives ≤ length blocks
  pub inside : (i : ℕ) → i < length representatives → slice_index representatives i < length blocks
  pub own : (i : ℕ) → i < length representatives → slice_index blocks (slice_index representatives i) ≡ i
  pub each : (s : ℕ) → s < length blocks → slice_index blocks s < length representatives

-- each block answers as its representative does, and goes to the block to which that goes
pub record AreRowsOf (m : Machine) (blocks representatives : List ℕ) (rows : List (ℕ × ℕ)) : Type 0 where
  pub size : length rows ≡ length representatives * m.letters
  pub row : (i a : ℕ) → i < length representatives → a < m.letters → slice_index_or rows (i * m.letters + a) (0, 0) ≡
      (slice_index blocks (next m (slice_index representatives i) a), number m (slice_index representatives i) a)
