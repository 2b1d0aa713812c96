-- What a call answers that reads a whole text.
use Rattle.std.specs.Prelude.{◌≡◌, ℕ, ◌≤◌, List, length, Result, Ok, Err}
use Rattle.test_world.specs.declared.reading.LoadError.{LoadError}
use Rattle.test_world.specs.declared.reading.LoadError.TheVariants.{Fault, TooLong, Memory}
use Rattle.test_world.specs.Count.{Rose}
use Rattle.test_world.specs.Shelf.{ShelfState, held_of, Holds, HoldsMoreThan, IsAtEnd}

-- the whole text was read, which is at most so long; or a call failed; or more is held; or there was no memory
abbrev pub Loads : ShelfState → ShelfState → List ℕ → ℕ → Result (List ℕ) LoadError → Type 0
Loads before after name most (Ok text) = Holds (held_of before) name text × (length text ≤ most) × IsAtEnd after.shown
Loads before after name most (Err Fault) = Rose before.faults after.faults
Loads before after name most (Err TooLong) = HoldsMoreThan (held_of before) name most
Loads before after name most (Err Memory) = Unit {0}

-- a fault is the error
abbrev pub IsFault : Result (List ℕ) LoadError → Type 0
IsFault (Err Fault) = Unit {0}
IsFault other = ⊥
