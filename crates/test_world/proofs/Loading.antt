-- What is so while a text is read in.
use Rattle.std.proofs.Common.{◌≡◌, List, ◌++◌, ℕ, Option, Some, None}
use Rattle.test_world.specs.Shelf.{Showing, held_in, left_of}

-- the shelf holds what it held, and what was read and what is left are the text of this name
abbrev pub IsLoading : Option Showing → Option Showing → List ℕ → List ℕ → Type 0
IsLoading None None name bytes = Unit {0}
IsLoading None (Some now) name bytes = ⊥
IsLoading (Some first) None name bytes = ⊥
IsLoading (Some first) (Some now) name bytes = first.held name ≡ Some (bytes ++ left_of now.current)
