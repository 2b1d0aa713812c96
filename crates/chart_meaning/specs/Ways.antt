-- What the parts of a step keep.
use Rattle.std.specs.Prelude.{◌≡◌, ℕ, ◌<◌, false, List, [], ◌∷◌, length, Option, None, Some}
use Rattle.std.specs.List.{All}
use Rattle.chart_model.specs.declared.chart.Chart.{Chart}
use Rattle.chart_model.specs.declared.state.State.{State}
use Rattle.chart_model.specs.States.{parent_of}
use Rattle.chart_meaning.specs.Step.{is_remembering}

-- all are states
abbrev pub AreStates : List State → List ℕ → Type 0
AreStates states way = All (λ s. s < length states) way

-- a way out that begins here, as far as it goes
abbrev pub IsUpFrom : List State → Option ℕ → List ℕ → Type 0
IsUpFrom states at [] = Unit {0}
IsUpFrom states at (s ∷ outer) = (at ≡ Some s) × IsUpFrom states (parent_of states s) outer

-- the child was active in the state; in a leaf there is none
abbrev pub IsActiveIn : Chart → ℕ → Option ℕ → Type 0
IsActiveIn chart s None = is_remembering chart.transitions s ≡ false
IsActiveIn chart s (Some child) = parent_of chart.states child ≡ Some s
