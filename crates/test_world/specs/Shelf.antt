-- What a shelf tells, and how its calls change that.
use Rattle.std.specs.Prelude.{◌≡◌, ℕ, ◌+◌, ◌≤◌, length, Bool, true, List, [], ◌++◌, Option, Some, None, IsSome}
use Rattle.test_world.specs.Growth.{IsLonger}

-- the text that is being read: its name, and the bytes of it that are left
pub record Current : Type 0 where
  pub name : List ℕ
  pub left : List ℕ

-- the bytes held under each name
abbrev pub Held : Type 0
Held = List ℕ → Option (List ℕ)

-- what a shelf tells: the bytes held under each name, and the current text, if there is one
pub record Showing : Type 0 where
  pub held : Held
  pub current : Option Current

-- a shelf: what it tells, if it does; the names that were taken up so far, the oldest first, if it tells them; how many of
-- its calls have failed, a number that stands still at the greatest count; and that it tells that no call will fail, but
-- one that takes up a name that it does not hold
pub record ShelfState : Type 0 where
  pub shown : Option Showing
  pub visited : Option (List (List ℕ))
  pub faults : ℕ
  pub sound : Bool

-- what is held, where it is told
abbrev pub held_in : Option Showing → Option Held
held_in None = None
held_in (Some showing) = Some (showing.held)

-- what the shelf holds, where it tells it
abbrev pub held_of : ShelfState → Option Held
held_of shelf = held_in shelf.shown

-- the shelf tells that no call will fail, but one that takes up a name that it does not hold
abbrev pub IsSound : ShelfState → Type 0
IsSound shelf = shelf.sound ≡ true

-- the name of the current text
abbrev pub name_of : Option Current → Option (List ℕ)
name_of None = None
name_of (Some current) = Some (current.name)

-- the bytes that are left of the current text: none, where there is no such text
abbrev pub left_of : Option Current → List ℕ
left_of None = []
left_of (Some current) = current.left

-- these are the bytes held under the name, where the shelf tells them
abbrev pub Holds : Option Held → List ℕ → List ℕ → Type 0
Holds None name bytes = Unit {0}
Holds (Some held) name bytes = held name ≡ Some bytes

-- a text of more than `most` bytes is held under the name, where the shelf tells it
abbrev pub HoldsMoreThan : Option Held → List ℕ → ℕ → Type 0
HoldsMoreThan None name most = Unit {0}
HoldsMoreThan (Some held) name most = (bytes : List ℕ) × (held name ≡ Some bytes) × (most + 1 ≤ length bytes)

-- the shelf tells that it holds a text of this name
abbrev pub HasName : Option Held → List ℕ → Type 0
HasName None name = ⊥
HasName (Some held) name = IsSome (held name)

-- the same bytes under each name as before, and told as before; and no fewer faults
pub record Keeps (before after : ShelfState) : Type 0 where
  pub held : held_of after ≡ held_of before
  pub later : before.faults ≤ after.faults

-- these names were taken up, in this order, and no others
abbrev pub Visits : ShelfState → ShelfState → List (List ℕ) → Type 0
Visits before after names = IsLonger before.visited after.visited names

-- the text of this name is current, from its first byte
abbrev pub TakesUp : Option Showing → List ℕ → Type 0
TakesUp None name = Unit {0}
TakesUp (Some now) name =
    (name_of now.current ≡ Some name) × (now.held name ≡ Some (left_of now.current))

-- no text is current
abbrev pub HasNoCurrent : Option Showing → Type 0
HasNoCurrent None = Unit {0}
HasNoCurrent (Some now) = now.current ≡ None

-- the same text is current, and these bytes were the next of it
abbrev pub Pulls : Option Showing → Option Showing → List ℕ → Type 0
Pulls None None given = Unit {0}
Pulls None (Some now) given = ⊥
Pulls (Some before) None given = ⊥
Pulls (Some before) (Some now) given =
    (name_of now.current ≡ name_of before.current) × (left_of before.current ≡ given ++ left_of now.current)

-- no byte of the current text is left
abbrev pub IsAtEnd : Option Showing → Type 0
IsAtEnd None = Unit {0}
IsAtEnd (Some now) = left_of now.current ≡ []
