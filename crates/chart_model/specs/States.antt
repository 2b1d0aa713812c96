-- The tree of a chart's states: which states contain which.
use Rattle.std.specs.Prelude.{◌≡◌, ◌<◌, length, ℕ, zero, suc, Bool, true, false, ◌&&◌, ◌==◌, List, Option, Some, is_none, option_and_then, slice_get, count_by}
use Rattle.std.specs.Option.{option_map_or}
use Rattle.std.specs.List.{list_any}
use Rattle.chart_model.specs.declared.state.State.{State}

-- the state that contains a state
abbrev pub parent_of : List State → ℕ → Option ℕ
parent_of states s = option_and_then (λ state. state.parent) (slice_get states s)

-- the state stands in the state with number s
abbrev pub is_child_of : ℕ → State → Bool
is_child_of s state = option_map_or (λ parent. parent == s) state.parent false

abbrev pub has_children : List State → ℕ → Bool
has_children states s = list_any (is_child_of s) states

-- the state is the one that is entered where the state with number s is
abbrev pub is_start_child_of : ℕ → State → Bool
is_start_child_of s state = state.start && is_child_of s state

-- the state is the one in which the chart starts
abbrev pub is_top_start : State → Bool
is_top_start state = state.start && is_none state.parent

-- at most so many states are on the way from the top to this one, both counted
abbrev pub is_within_depth : ℕ → List State → ℕ → Bool
is_within_depth zero states s = false
is_within_depth (suc depth) states s = option_map_or (is_within_depth depth states) (parent_of states s) true

-- how the states of a chart contain one another
pub record IsTree (states : List State) : Type 0 where
  pub parents : (s : ℕ) (state : State) (parent : ℕ) → slice_get states s ≡ Some state → state.parent ≡ Some parent → parent < s
  pub depth : (s : ℕ) → s < length states → is_within_depth 8 states s ≡ true
  pub starts : (s : ℕ) → has_children states s ≡ true → count_by (is_start_child_of s) states ≡ 1
  pub top : count_by is_top_start states ≡ 1
