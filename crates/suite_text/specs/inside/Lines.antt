-- What pushing bytes does to a scratch.
use Rattle.std.specs.Prelude.{◌≡◌, ℕ, List, ◌++◌}
use Rattle.suite_model.specs.Scratch.{Place}

-- the bytes stand at the line's end, and the rest is kept
pub record Pushes (old new : Place) (bytes : List ℕ) : Type 0 where
  pub line : new.line ≡ old.line ++ bytes
  pub letters : new.letters ≡ old.letters
  pub room : new.room ≡ old.room
  pub ends : new.ends ≡ old.ends

-- the line is these bytes, and the rest is kept
pub record Sets (old new : Place) (bytes : List ℕ) : Type 0 where
  pub line : new.line ≡ bytes
  pub letters : new.letters ≡ old.letters
  pub room : new.room ≡ old.room
