-- What everything that was declared keeps, line after line.
use Rattle.std.specs.Prelude.{◌≡◌, ◌≢◌, ℕ, ◌+◌, ◌*◌, ◌<◌, ◌≤◌, ◌≤ℤ◌, true, false, List, [], ◌∷◌, ◌++◌, length}
use Rattle.std.specs.Prelude.{count_by, unsigned_abs, slice_get, AllPairs, Option, Some, None}
use Rattle.std.specs.List.{All, list_any}
use Rattle.std.specs.Option.{ForSome, option_map_or}
use Rattle.lin_form.specs.Range.{IsRange}
use Rattle.line_forms.specs.declared.statement.InputForm.{InputForm}
use Rattle.line_forms.specs.declared.statement.OutputForm.{OutputForm}
use Rattle.line_forms.specs.declared.statement.MemoryForm.{MemoryForm}
use Rattle.line_forms.specs.Forms.{value_of}
use Rattle.line_forms.specs.Limits.{IsFree}
use Rattle.chart_model.specs.declared.action.Action.{Action}
use Rattle.chart_model.specs.declared.transition.Transition.{Transition}
use Rattle.chart_model.specs.Chart.{IsAction, IsAssumption, IsGuard}
use Rattle.chart_syntax.specs.declared.reader.DeclaredState.{DeclaredState}
use Rattle.chart_syntax.specs.declared.reader.Reader.{Reader}
use Rattle.chart_syntax.specs.Scopes.{input_names, output_names, memory_names}
use Rattle.chart_syntax.specs.Checks.{state_names, memory_size, is_start_under, is_child_of}

abbrev pub HasRange : InputForm → Type 0
HasRange form = IsRange (value_of form.lo) (value_of form.hi)

abbrev pub HasSmallValue : OutputForm → Type 0
HasSmallValue form = unsigned_abs (value_of form.value) ≤ 1000000

-- the numbers of a memory are small, and its value lies in its range
pub record HasMemory (form : MemoryForm) : Type 0 where
  pub low : unsigned_abs (value_of form.lo) ≤ 1000
  pub high : unsigned_abs (value_of form.hi) ≤ 1000
  pub above : value_of form.lo ≤ℤ value_of form.value
  pub below : value_of form.value ≤ℤ value_of form.hi

abbrev pub product_of : List MemoryForm → ℕ
product_of [] = 1
product_of (form ∷ forms) = memory_size form * product_of forms

abbrev pub variable_names : Reader → List (List ℕ)
variable_names s = input_names s ++ output_names s ++ memory_names s

-- the depth of a state follows from its parent's
abbrev pub has_depth : List DeclaredState → DeclaredState → Type 0
has_depth states state = (state.depth ≤ 8) × (1 ≤ state.depth)
    × ForSome state.parent (λ parent. (above : DeclaredState) × (slice_get states parent ≡ Some above)
    × (state.depth ≡ above.depth + 1))

-- the states of a chart as far as they are declared
pub record AreStates (states : List DeclaredState) : Type 0 where
  pub parents : (k parent : ℕ) (state : DeclaredState) → slice_get states k ≡ Some state
      → state.parent ≡ Some parent → parent < k
  pub depths : (k : ℕ) (state : DeclaredState) → slice_get states k ≡ Some state → has_depth states state
  pub starts : (parent : Option ℕ) → count_by (is_start_under parent) states ≤ 1

-- actions among so many inputs, memories and outputs
abbrev pub AreActions : ℕ → ℕ → ℕ → List Action → Type 0
AreActions inputs memories outputs actions = All (IsAction inputs memories outputs) actions

-- a transition among so many inputs, memories and outputs, and these states
pub record IsMove (inputs memories outputs : ℕ) (states : List DeclaredState) (transition : Transition) : Type 0 where
  pub source : transition.source < length states
  pub guard : ForSome transition.guard (λ guard. IsGuard inputs memories guard)
  pub effect : AreActions inputs memories outputs transition.effect
  pub target : ForSome transition.target (λ target. target < length states)
  pub history : transition.history ≡ true → option_map_or
      (λ target. list_any (is_child_of target) states) transition.target false ≡ true

abbrev pub AreMoves : Reader → List Transition → Type 0
AreMoves s transitions = All (IsMove (length s.inputs) (length s.memories) (length s.outputs) s.states) transitions

-- what the lines on entry or exit that were read declare
abbrev pub AreLines : Reader → List (Option (List Action)) → Type 0
AreLines s lines = All (λ line. ForSome line (AreActions (length s.inputs) (length s.memories) (length s.outputs)))
    lines

-- the lines of what states do come last
pub record HasNoActions (s : Reader) : Type 0 where
  pub entries : All (λ line. line ≡ None) s.entries
  pub exits : All (λ line. line ≡ None) s.exits
  pub transitions : s.transitions ≡ []

-- there are few of everything
pub record HasFew (s : Reader) : Type 0 where
  pub version : s.version ≤ 3
  pub inputs : length s.inputs ≤ 6
  pub assumed : length s.assumed ≤ 16
  pub outputs : length s.outputs ≤ 8
  pub memories : length s.memories ≤ 4
  pub product : s.product ≤ 256
  pub states : length s.states ≤ 64
  pub transitions : length s.transitions ≤ 256
  pub entries : length s.entries ≡ length s.states
  pub exits : length s.exits ≡ length s.states

pub record IsPartial (s : Reader) : Type 0 where
  pub few : HasFew s
  pub ranges : All HasRange s.inputs
  pub assumptions : All (IsAssumption (length s.inputs)) s.assumed
  pub values : All HasSmallValue s.outputs
  pub memories : All HasMemory s.memories
  pub product : s.product ≡ product_of s.memories
  pub free : All IsFree (variable_names s)
  pub different : AllPairs (λ a b. a ≢ b) (variable_names s)
  pub free_states : All IsFree (state_names s)
  pub different_states : AllPairs (λ a b. a ≢ b) (state_names s)
  pub tree : AreStates s.states
  pub entries : AreLines s s.entries
  pub exits : AreLines s s.exits
  pub moves : AreMoves s s.transitions
  pub inputs_first : s.group ≤ 1 → s.assumed ≡ []
  pub outputs_later : s.group ≤ 2 → s.outputs ≡ []
  pub memories_later : s.group ≤ 3 → s.memories ≡ []
  pub actions_last : s.group ≤ 5 → HasNoActions s
