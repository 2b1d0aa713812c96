-- One step of a chart, on the tree of its states as it is written.
use Rattle.std.specs.Prelude.{ℕ, ℤ, Bool, true, false, ◌&&◌, ◌==◌, if◌then◌else◌, List, [], ◌∷◌, ◌++◌, map, reverse, length}
use Rattle.std.specs.Prelude.{slice_get, slice_set, Option, None, Some, option_and_then, position, find}
use Rattle.std.specs.Option.{option_map_or, option_or}
use Rattle.std.specs.List.{list_any, range_with_len}
use Rattle.chart_model.specs.declared.action.Action.{Action}
use Rattle.chart_model.specs.declared.chart.Chart.{Chart}
use Rattle.chart_model.specs.declared.state.State.{State}
use Rattle.chart_model.specs.declared.transition.Transition.{Transition}
use Rattle.chart_model.specs.Guard.{truth_of_guard}
use Rattle.chart_model.specs.States.{is_top_start}
use Rattle.chart_meaning.specs.Actions.{run}
use Rattle.chart_meaning.specs.Configuration.{Configuration}
use Rattle.chart_meaning.specs.Tree.{ancestors, least_common_proper_ancestor, states_below, start_child, start_descendants}

-- a transition is to the state, and has history
abbrev pub is_recall_of : ℕ → Transition → Bool
is_recall_of s transition = transition.history && option_map_or (λ target. target == s) transition.target false

-- the state is the target of some transition with history
abbrev pub is_remembering : List Transition → ℕ → Bool
is_remembering transitions s = list_any (is_recall_of s) transitions

-- the active states: the leaf and all states that contain it, from the inside out
abbrev pub active_states : List State → Configuration → List ℕ
active_states states c = ancestors states c.leaf

-- the entry actions of a state
abbrev pub entry_of : List State → ℕ → List Action
entry_of states s = option_map_or (λ state. state.entry) (slice_get states s) []

-- the exit actions of a state
abbrev pub exit_of : List State → ℕ → List Action
exit_of states s = option_map_or (λ state. state.exit) (slice_get states s) []

-- a state is entered, and is the one reached: its entry actions run
abbrev pub enter : Chart → ℕ → Configuration → Configuration
enter chart s c = record (run chart.memories (entry_of chart.states s) c) { leaf = s }

-- states are entered, outermost first
abbrev pub enter_all : Chart → List ℕ → Configuration → Configuration
enter_all chart [] c = c
enter_all chart (s ∷ inner) c = enter_all chart inner (enter chart s c)

-- the last child of a remembering state at the start: its start child
abbrev pub first_last : Chart → ℕ → Option ℕ
first_last chart s = if is_remembering chart.transitions s then start_child chart.states s else None

-- before the top start state is entered, memories and outputs have their declared values
abbrev pub declared : Chart → ℕ → Configuration
declared chart s = record {
  leaf = s;
  memory = map (λ memory. memory.initial) chart.memories;
  outputs = chart.initial;
  last = map (first_last chart) (range_with_len 0 (length chart.states));
}

-- the starting configuration: the top start state is entered, and from there start children down to a leaf
abbrev pub start_of : Chart → Configuration
start_of chart =
    option_map_or (λ top. enter_all chart (top ∷ start_descendants chart.states top) (declared chart top))
    (position is_top_start chart.states) (declared chart 0)

-- the guard holds; a transition without a guard always holds
abbrev pub is_guard_true : List ℤ → List ℤ → Transition → Bool
is_guard_true vector memory transition = option_map_or (λ guard. truth_of_guard guard vector memory) transition.guard true

-- a transition from the state is enabled
abbrev pub is_enabled_in : List ℤ → List ℤ → ℕ → Transition → Bool
is_enabled_in vector memory s transition = transition.source == s && is_guard_true vector memory transition

-- of the innermost of these states that has an enabled transition, the first written fires
abbrev pub firing : List Transition → List ℤ → List ℤ → List ℕ → Option Transition
firing transitions vector memory [] = None
firing transitions vector memory (s ∷ outer) = option_or (find (is_enabled_in vector memory s) transitions) (firing transitions vector memory outer)

-- a remembering state that is exited takes the child that was active in it as its last child
abbrev pub remember : List Transition → ℕ → Option ℕ → Configuration → Configuration
remember transitions s child c = if is_remembering transitions s then record c { last = slice_set c.last s child } else c

-- states are exited from the inside out, `child` active in the first: each runs its exit actions
abbrev pub exit_all : Chart → Option ℕ → List ℕ → Configuration → Configuration
exit_all chart child [] c = c
exit_all chart child (s ∷ outer) c = exit_all chart (Some s) outer (remember chart.transitions s child (run chart.memories (exit_of chart.states s) c))

-- the state's last child
abbrev pub last_child : Configuration → ℕ → Option ℕ
last_child c s = option_and_then (λ child. child) (slice_get c.last s)

-- the states entered below a target: with history its last child first, and from there on start children
abbrev pub way_below : List State → Bool → ℕ → Configuration → List ℕ
way_below states false target c = start_descendants states target
way_below states true target c = option_map_or (λ child. child ∷ start_descendants states child) (last_child c target) []

-- the active states below the innermost state that properly contains source and target
abbrev pub exited_by : List State → ℕ → ℕ → ℕ → List ℕ
exited_by states source target leaf = states_below (least_common_proper_ancestor states source target) (ancestors states leaf)

-- the states below that state on the way down to the target, outermost first
abbrev pub entered_by : List State → ℕ → ℕ → List ℕ
entered_by states source target = reverse (states_below (least_common_proper_ancestor states source target) (ancestors states target))

-- the target is entered, and the states below it
abbrev pub enter_target : Chart → Transition → ℕ → Configuration → Configuration
enter_target chart transition target c =
    enter_all chart (entered_by chart.states transition.source target ++ way_below chart.states transition.history target c) c

-- the exits, then the effect, then the entries of a transition with a target
abbrev pub go_to : Chart → Transition → ℕ → Configuration → Configuration
go_to chart transition target c =
    enter_target chart transition target (run chart.memories transition.effect (exit_all chart None (exited_by chart.states transition.source target c.leaf) c))

-- what a transition does; without a target it runs its effect only
abbrev pub take_transition : Chart → Transition → Configuration → Configuration
take_transition chart transition c =
    option_map_or (λ target. go_to chart transition target c) transition.target (run chart.memories transition.effect c)

-- the configuration after a step; if no transition fires, nothing changes
abbrev pub next_of : Chart → Configuration → List ℤ → Configuration
next_of chart c vector =
    option_map_or (λ transition. take_transition chart transition c)
    (firing chart.transitions vector c.memory (active_states chart.states c)) c

-- all output values after the step
abbrev pub reply_of : Chart → Configuration → List ℤ → List ℤ
reply_of chart c vector = (next_of chart c vector).outputs
