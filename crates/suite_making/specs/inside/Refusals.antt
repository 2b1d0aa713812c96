-- Why a layer refuses.
use Rattle.std.specs.Prelude.{◌≡◌, ℕ, ◌<◌, ◌≤◌}
use Rattle.input_classes.specs.Partition.{Partition}
use Rattle.subject.specs.Meaning.{Meaning}
use Rattle.suite_build.specs.declared.BuildError.{BuildError}
use Rattle.suite_build.specs.declared.BuildError.TheVariants as built
use Rattle.suite_build.specs.Steps.{steps}
use Rattle.suite_making.specs.Making.{HasTooManyStates}
use Rattle.suite_making.specs.declared.error.MakeError.{MakeError}
use Rattle.suite_making.specs.declared.error.MakeError.TheVariants.{TooManyConfigurations, BoundBelow, TooManySteps, Memory}

-- the error for words that are not built
abbrev pub refusal_of : BuildError → MakeError
refusal_of (built.BoundBelow n) = BoundBelow n
refusal_of built.TooManySteps = TooManySteps
refusal_of built.Memory = Memory

-- there is no machine: too many states, or want of memory
abbrev pub IsMachineRefused : {S : Type 0} → Meaning S → Partition → MakeError → Type 0
IsMachineRefused m r TooManyConfigurations = HasTooManyStates m r
IsMachineRefused m r (BoundBelow n) = ⊥
IsMachineRefused m r TooManySteps = ⊥
IsMachineRefused m r Memory = Unit {0}

-- there are no words for n states, c letters and the bound
abbrev pub AreWordsRefused : ℕ → ℕ → ℕ → MakeError → Type 0
AreWordsRefused n c bound TooManyConfigurations = ⊥
AreWordsRefused n c bound (BoundBelow k) = (bound < n) × (k ≡ n)
AreWordsRefused n c bound TooManySteps = (n ≤ bound) × (20000000 < steps n c bound)
AreWordsRefused n c bound Memory = Unit {0}
