-- Which values are configurations of a chart.
use Rattle.std.specs.Prelude.{◌≡◌, ℕ, ◌<◌, ℤ, ◌≤ℤ◌, unsigned_abs, true, false, length, slice_get, Option, None, Some}
use Rattle.std.specs.List.{All, AllZip}
use Rattle.chart_model.specs.declared.chart.Chart.{Chart}
use Rattle.chart_model.specs.declared.state.Memory.{Memory}
use Rattle.chart_model.specs.States.{parent_of, has_children}
use Rattle.chart_meaning.specs.Configuration.{Configuration}
use Rattle.chart_meaning.specs.Step.{is_remembering}

-- a value lies in a memory's range
abbrev pub IsInMemory : Memory → ℤ → Type 0
IsInMemory memory z = (memory.lo ≤ℤ z) × (z ≤ℤ memory.hi)

-- one value per memory, in its range, and one value per output, within the limit of replies
pub record AreValues (chart : Chart) (c : Configuration) : Type 0 where
  pub memory : AllZip IsInMemory chart.memories c.memory
  pub outputs : length c.outputs ≡ length chart.signature.outputs
  pub limited : All (λ z. unsigned_abs z < 1000000000000) c.outputs

-- a remembering state has one of its children as its last child, and no other state has a last child
abbrev pub IsLastOf : Chart → ℕ → Option ℕ → Type 0
IsLastOf chart s None = is_remembering chart.transitions s ≡ false
IsLastOf chart s (Some child) = (is_remembering chart.transitions s ≡ true) × (parent_of chart.states child ≡ Some s)

-- one entry per state, each as it should be
pub record AreLastChildren (chart : Chart) (c : Configuration) : Type 0 where
  pub one_each : length c.last ≡ length chart.states
  pub child : (s : ℕ) (last : Option ℕ) → slice_get c.last s ≡ Some last → IsLastOf chart s last

-- the leaf is a state without children
pub record IsConfiguration (chart : Chart) (c : Configuration) : Type 0 where
  pub state : c.leaf < length chart.states
  pub childless : has_children chart.states c.leaf ≡ false
  pub values : AreValues chart c
  pub last : AreLastChildren chart c
