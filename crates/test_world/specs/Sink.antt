-- What a sink tells, and how its calls change that.
use Rattle.std.specs.Prelude.{◌≡◌, ℕ, ◌≤◌, List, length, take, Option, Result, Ok, Err, OnErr}
use Rattle.test_world.specs.Count.{Rose}
use Rattle.test_world.specs.Growth.{IsLonger}

-- a sink: the bytes taken so far, if it tells them; how many of its puts have failed, a number that stands still at the
-- greatest count; and how many puts there were, where it counts them
pub record SinkState : Type 0 where
  pub taken : Option (List ℕ)
  pub faults : ℕ
  pub puts : ℕ

-- the sink took exactly these bytes
abbrev pub Grows : SinkState → SinkState → List ℕ → Type 0
Grows before after bytes = IsLonger before.taken after.taken bytes

-- the sink took some number of these bytes from the front
abbrev pub GrowsByPrefix : SinkState → SinkState → List ℕ → Type 0
GrowsByPrefix before after bytes = (n : ℕ) × (n ≤ length bytes) × Grows before after (take n bytes)

-- at Ok all of these bytes were taken; at Err a put failed, and a prefix of them was taken
abbrev pub IsPutBy : {T E : Type 0} → SinkState → SinkState → List ℕ → Result T E → Type 0
IsPutBy before after bytes (Ok value) = Grows before after bytes
IsPutBy before after bytes (Err error) = GrowsByPrefix before after bytes × Rose before.faults after.faults

-- what a call answers that puts these bytes
pub record Puts {T E : Type 0} (before after : SinkState) (bytes : List ℕ) (result : Result T E) : Type 0 where
  pub put : IsPutBy before after bytes result
  pub later : before.faults ≤ after.faults

-- what a call answers that hands on what was taken: the sink tells what it did, and a failure is counted
pub record HandsOn {T E : Type 0} (before after : SinkState) (result : Result T E) : Type 0 where
  pub taken : after.taken ≡ before.taken
  pub puts : after.puts ≡ before.puts
  pub later : before.faults ≤ after.faults
  pub fault : OnErr result (Rose before.faults after.faults)
