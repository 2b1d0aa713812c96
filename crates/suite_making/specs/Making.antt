-- When a suite is made of a plan, a partition and a bound, and why not.
use Rattle.std.specs.Prelude.{ℕ, ◌<◌, ◌≤◌, length}
use Rattle.abstract_machine.specs.Reached.{ReachesMore}
use Rattle.input_classes.specs.Partition.{Partition, witnesses}
use Rattle.input_classes.specs.VectorSet.{Members}
use Rattle.subject.specs.Alike.{HasRank}
use Rattle.subject.specs.Domain.{box}
use Rattle.subject.specs.Meaning.{Meaning}
use Rattle.suite_build.specs.Steps.{steps}
use Rattle.suite_making.specs.declared.error.MakeError.{MakeError}
use Rattle.suite_making.specs.declared.error.MakeError.TheVariants.{TooManyConfigurations, BoundBelow, TooManySteps, Memory}

-- more than 1,024 states are reached on the witnesses
abbrev pub HasTooManyStates : {S : Type 0} → Meaning S → Partition → Type 0
HasTooManyStates m r = ReachesMore 1024 (Members (witnesses r)) m

-- the number of states is n, the rank, and the bound is below it
pub record IsBoundBelow {S : Type 0} (m : Meaning S) (r : Partition) (bound n : ℕ) : Type 0 where
  pub few : HasTooManyStates m r → ⊥
  pub rank : HasRank (box m r) m n
  pub below : bound < n

-- the number of states is the rank and at most the bound, and there are more than 20,000,000 steps
pub record HasTooManySteps {S : Type 0} (m : Meaning S) (r : Partition) (bound : ℕ) : Type 0 where
  pub few : HasTooManyStates m r → ⊥
  pub states : ℕ
  pub rank : HasRank (box m r) m states
  pub within : states ≤ bound
  pub many : 20000000 < steps states (length r.classes) bound

-- the same for the least bound, the rank
pub record HasTooManyLeastSteps {S : Type 0} (m : Meaning S) (r : Partition) : Type 0 where
  pub few : HasTooManyStates m r → ⊥
  pub states : ℕ
  pub rank : HasRank (box m r) m states
  pub many : 20000000 < steps states (length r.classes) states

-- none of these
pub record IsAllowed {S : Type 0} (m : Meaning S) (r : Partition) (bound : ℕ) : Type 0 where
  pub few : HasTooManyStates m r → ⊥
  pub states : ℕ
  pub rank : HasRank (box m r) m states
  pub within : states ≤ bound
  pub few_steps : steps states (length r.classes) bound ≤ 20000000

-- there is a suite for the least bound
pub record IsLeastAllowed {S : Type 0} (m : Meaning S) (r : Partition) : Type 0 where
  pub few : HasTooManyStates m r → ⊥
  pub states : ℕ
  pub rank : HasRank (box m r) m states
  pub few_steps : steps states (length r.classes) states ≤ 20000000

-- the cause of an error
abbrev pub IsRefused : {S : Type 0} → Meaning S → Partition → ℕ → MakeError → Type 0
IsRefused m r bound TooManyConfigurations = HasTooManyStates m r
IsRefused m r bound (BoundBelow n) = IsBoundBelow m r bound n
IsRefused m r bound TooManySteps = HasTooManySteps m r bound
IsRefused m r bound Memory = Unit {0}

-- the cause of an error where the bound is the least
abbrev pub IsLeastRefused : {S : Type 0} → Meaning S → Partition → MakeError → Type 0
IsLeastRefused m r TooManyConfigurations = HasTooManyStates m r
IsLeastRefused m r (BoundBelow n) = ⊥
IsLeastRefused m r TooManySteps = HasTooManyLeastSteps m r
IsLeastRefused m r Memory = Unit {0}
