-- The states that a plan reaches on the words of a set of vectors.
use Rattle.std.specs.Prelude.{◌≡◌, ◌≢◌, ℕ, ◌<◌, ℤ, List, length, Contains}
use Rattle.std.specs.List.{All, AllPairs}
use Rattle.input_classes.specs.declared.class.Class.{Class}
use Rattle.input_classes.specs.Partition.{Partition, IsInClass}
use Rattle.input_classes.specs.VectorSet.{VectorSet}
use Rattle.subject.specs.Meaning.{Meaning, LeadsTo, IsReachedOn}

-- states that are reached, no two of them the same
pub record AreReached {S : Type 0} (s : VectorSet) (m : Meaning S) (states : List S) : Type 0 where
  pub reached : All (LeadsTo s m) states
  pub different : AllPairs (λ t u. t ≢ u) states

-- exactly the states that are reached, each once
pub record AreAllReached {S : Type 0} (s : VectorSet) (m : Meaning S) (states : List S) : Type 0 where
  pub are_reached : AreReached s m states
  pub each : (t : S) → LeadsTo s m t → Contains states t

-- exactly n states are reached
pub record ReachesExactly {S : Type 0} (n : ℕ) (s : VectorSet) (m : Meaning S) : Type 0 where
  pub states : List S
  pub are_all : AreAllReached s m states
  pub number : length states ≡ n

-- more than n states are reached
pub record ReachesMore {S : Type 0} (n : ℕ) (s : VectorSet) (m : Meaning S) : Type 0 where
  pub states : List S
  pub are_reached : AreReached s m states
  pub more : n < length states

-- the members of each class lead from each state that is reached to one state, with one reply
abbrev pub MembersAdvanceAlike : {S : Type 0} → VectorSet → Partition → Meaning S → Type 0
MembersAdvanceAlike {S} s r m = (t : S) → IsReachedOn s m t → (c : Class) → Contains r.classes c
    → (x y : List ℤ) → IsInClass s r c x → IsInClass s r c y → (m.next t x ≡ m.next t y) × (m.reply t x ≡ m.reply t y)
