-- What a plan keeps ready for each leaf.
use Rattle.std.specs.Prelude.{◌≡◌, ℕ, ◌==◌, List, [], ◌∷◌, ◌++◌, map, filter, length, slice_get, Option, None, Some, Vec, false}
use Rattle.std.specs.declared.alloc.Global.{Global}
use Rattle.std.specs.List.{AllZip, range_with_len}
use Rattle.chart_model.specs.declared.chart.Chart.{Chart}
use Rattle.chart_model.specs.declared.state.State.{State}
use Rattle.chart_model.specs.declared.transition.Transition.{Transition}
use Rattle.chart_model.specs.States.{has_children}
use Rattle.chart_meaning.specs.declared.rows.Route.{Route}
use Rattle.chart_meaning.specs.declared.rows.Row.{Row}
use Rattle.chart_meaning.specs.Step.{entered_by, exited_by, start_of}
use Rattle.chart_meaning.specs.Configuration.{Configuration}
use Rattle.chart_meaning.specs.IsConfiguration.{IsConfiguration}
use Rattle.chart_meaning.specs.Tree.{start_descendants, ancestors}

-- the transitions that may fire where these states are active: innermost first, and each state's in written order
abbrev pub candidates : List Transition → List ℕ → List Transition
candidates transitions [] = []
candidates transitions (s ∷ outer) = filter (λ transition. transition.source == s) transitions ++ candidates transitions outer

-- the exits and entries of a transition from a leaf
pub record IsRouteTo (chart : Chart) (leaf : ℕ) (transition : Transition) (route : Route) : Type 0 where
  pub target : transition.target ≡ Some route.target
  pub exited : route.exited ≡ exited_by chart.states transition.source route.target leaf
  pub entered : route.entered ≡ entered_by chart.states transition.source route.target

-- a transition with a target has a route, and one without has none
abbrev pub IsRouteOf : Chart → ℕ → Transition → Option Route → Type 0
IsRouteOf chart leaf transition None = transition.target ≡ None
IsRouteOf chart leaf transition (Some route) = IsRouteTo chart leaf transition route

-- the row of a transition in a leaf
pub record IsRowOf (chart : Chart) (leaf : ℕ) (transition : Transition) (row : Row) : Type 0 where
  pub is : slice_get chart.transitions row.transition ≡ Some transition
  pub route : IsRouteOf chart leaf transition row.route

-- the row is that of some transition
abbrev pub IsRow : Chart → ℕ → Row → Type 0
IsRow chart leaf row = (transition : Transition) × IsRowOf chart leaf transition row

-- one row for each transition that may fire in a leaf
abbrev pub AreRows : Chart → ℕ → List Row → Type 0
AreRows chart leaf rows = AllZip (IsRowOf chart leaf) (candidates chart.transitions (ancestors chart.states leaf)) rows

-- the rows of each leaf, by the numbers of the states
pub record AreRowsOfLeaves (chart : Chart) (rows : List (Vec Row Global)) : Type 0 where
  pub one_each : length rows ≡ length chart.states
  pub leaf : (s : ℕ) (seen : Vec Row Global) → slice_get rows s ≡ Some seen → has_children chart.states s ≡ false → AreRows chart s seen.items

-- the row of the transition that fires, where one does
abbrev pub IsRowThatFires : Chart → ℕ → Option Transition → Option Row → Type 0
IsRowThatFires chart leaf fires None = fires ≡ None
IsRowThatFires chart leaf fires (Some row) = (transition : Transition) × ((fires ≡ Some transition) × IsRowOf chart leaf transition row)

-- the start children below each state
abbrev pub AreWaysDown : List State → List (List ℕ) → Type 0
AreWaysDown states ways = ways ≡ map (start_descendants states) (range_with_len 0 (length states))

-- a plan is ready for its chart
pub record IsReady (chart : Chart) (c : Configuration) (table : List (Vec Row Global)) (down : List (List ℕ)) : Type 0 where
  pub start : c ≡ start_of chart
  pub configuration : IsConfiguration chart c
  pub rows : AreRowsOfLeaves chart table
  pub ways : AreWaysDown chart.states down
