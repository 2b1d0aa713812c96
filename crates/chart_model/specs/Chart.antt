-- What every chart keeps.
use Rattle.std.specs.Prelude.{◌≡◌, ℕ, ◌+◌, ◌*◌, ◌<◌, ◌≤◌, ℤ, ◌-ℤ◌, ◌≤ℤ◌, Bool, true, false, nat_lt, List, [], ◌∷◌, ◌++◌, length, drop, map}
use Rattle.std.specs.Prelude.{unsigned_abs, AllPairs, Contains, ◌≢◌}
use Rattle.std.specs.List.{All}
use Rattle.std.specs.Option.{option_map_or, ForSome}
use Rattle.lin_form.specs.declared.form.Form.{Form}
use Rattle.lin_form.specs.declared.form.Comparison.{Comparison}
use Rattle.lin_form.specs.declared.form.Relation.TheVariants.{NotEqual}
use Rattle.lin_form.specs.declared.signature.Signature.{Signature}
use Rattle.lin_form.specs.Form.{IsModerate}
pub use Rattle.lin_form.specs.Inequality.{AreZero}
use Rattle.lin_form.specs.Range.{IsCount}
use Rattle.lin_form.specs.Name.{reserved_words}
use Rattle.chart_model.specs.declared.action.Action.{Action}
use Rattle.chart_model.specs.declared.action.Place.{Place}
use Rattle.chart_model.specs.declared.action.Place.TheVariants as place
use Rattle.lin_form.specs.Trees.{Tree}
use Rattle.chart_model.specs.declared.state.Memory.{Memory}
use Rattle.chart_model.specs.declared.state.State.{State}
use Rattle.chart_model.specs.declared.transition.Transition.{Transition}
use Rattle.chart_model.specs.Guard.{comparisons_of, depth_of_guard}
use Rattle.chart_model.specs.States.{IsTree, has_children}

-- a form over so many inputs and so many memories
pub record IsFormOver (inputs memories : ℕ) (form : Form) : Type 0 where
  pub moderate : IsModerate form
  pub each_input : length form.inputs ≡ inputs
  pub undeclared : AreZero (drop memories form.memory)

-- names of one space are all different, and none is a reserved word
pub record AreNames (names : List (List ℕ)) : Type 0 where
  pub different : AllPairs (λ a b. a ≢ b) names
  pub free : All (λ name. Contains reserved_words name → ⊥) names

-- a memory's range is small and has its initial value
pub record IsMemory (memory : Memory) : Type 0 where
  pub low : unsigned_abs memory.lo ≤ 1000
  pub high : unsigned_abs memory.hi ≤ 1000
  pub above : memory.lo ≤ℤ memory.initial
  pub below : memory.initial ≤ℤ memory.hi

-- how many values a memory may have
abbrev pub range_size : Memory → ℕ
range_size memory = unsigned_abs (memory.hi -ℤ memory.lo) + 1

abbrev pub range_product : List Memory → ℕ
range_product [] = 1
range_product (memory ∷ memories) = range_size memory * range_product memories

abbrev pub is_declared : ℕ → ℕ → Place → Bool
is_declared memories outputs (place.Memory number) = nat_lt number memories
is_declared memories outputs (place.Output number) = nat_lt number outputs

-- an action assigns a memory or an output that there is, and its sum has memories alone
pub record IsAction (inputs memories outputs : ℕ) (action : Action) : Type 0 where
  pub place : is_declared memories outputs action.place ≡ true
  pub value : IsFormOver inputs memories action.value
  pub no_inputs : AreZero action.value.inputs

-- a guard is small, and its forms are over the inputs and memories
pub record IsGuard (inputs memories : ℕ) (guard : Tree Comparison) : Type 0 where
  pub few : length (comparisons_of guard) ≤ 64
  pub shallow : depth_of_guard guard ≤ 128
  pub forms : All (λ comparison. IsFormOver inputs memories comparison.form) (comparisons_of guard)

-- an assumption speaks of inputs alone, and of at least one
pub record IsAssumption (inputs : ℕ) (comparison : Comparison) : Type 0 where
  pub form : IsFormOver inputs 0 comparison.form
  pub varies : AreZero comparison.form.inputs → ⊥
  pub relation : comparison.relation ≡ NotEqual → ⊥

pub record IsState (inputs memories outputs : ℕ) (state : State) : Type 0 where
  pub entry : All (IsAction inputs memories outputs) state.entry
  pub exit : All (IsAction inputs memories outputs) state.exit

pub record IsTransition (inputs memories outputs : ℕ) (states : List State) (transition : Transition) : Type 0 where
  pub source : transition.source < length states
  pub guard : ForSome transition.guard (λ guard. IsGuard inputs memories guard)
  pub effect : All (IsAction inputs memories outputs) transition.effect
  pub target : ForSome transition.target (λ target. target < length states)
  pub history : transition.history ≡ true → option_map_or (has_children states) transition.target false ≡ true

-- the counts of a chart are within the limits
pub record AreCounts (assumed : List Comparison) (memories : List Memory) (states : List State) (transitions : List Transition) : Type 0 where
  pub few_assumed : length assumed ≤ 16
  pub few_memories : length memories ≤ 4
  pub product : range_product memories ≤ 256
  pub few_states : IsCount 64 (length states)
  pub few_transitions : length transitions ≤ 256

-- what every chart keeps
pub record IsChart (signature : Signature) (initial : List ℤ) (assumed : List Comparison) (memories : List Memory)
    (states : List State) (transitions : List Transition) : Type 0 where
  pub counts : AreCounts assumed memories states transitions
  pub names : AreNames (map (λ input. input.name) signature.inputs ++ signature.outputs ++ map (λ memory. memory.name) memories)
  pub state_names : AreNames (map (λ state. state.name) states)
  pub one_value_each : length initial ≡ length signature.outputs
  pub small : All (λ value. unsigned_abs value ≤ 1000000) initial
  pub assumptions : All (IsAssumption (length signature.inputs)) assumed
  pub ranges : All IsMemory memories
  pub tree : IsTree states
  pub actions : All (IsState (length signature.inputs) (length memories) (length signature.outputs)) states
  pub moves : All (IsTransition (length signature.inputs) (length memories) (length signature.outputs) states) transitions
