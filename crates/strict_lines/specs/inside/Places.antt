-- Where the next separator stands.
use Rattle.std.specs.Prelude.{◌≡◌, ◌≢◌, ℕ, ◌<◌, ◌≤◌, List, length, slice_index}

-- the first place of a byte at or after a place, or the end
pub record IsNext (separator : ℕ) (bytes : List ℕ) (start place : ℕ) : Type 0 where
  pub upto : place ≤ length bytes
  pub later : start ≤ place
  pub none : (k : ℕ) → start ≤ k → k < place → slice_index bytes k ≢ separator
  pub found : place < length bytes → slice_index bytes place ≡ separator
