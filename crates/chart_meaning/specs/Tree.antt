-- Ways through the tree of states: out of a state, between two states, and down to a leaf.
use Rattle.std.specs.Prelude.{ℕ, zero, suc, not, ◌==◌, List, [], ◌∷◌, drop, Option, None, Some, position, find, take_while}
use Rattle.std.specs.Option.{option_map_or}
use Rattle.std.specs.List.{list_any}
use Rattle.chart_model.specs.declared.state.State.{State}
use Rattle.chart_model.specs.States.{parent_of, is_start_child_of}

-- a state and the states that contain it, at most so many
abbrev pub ancestors_within : ℕ → List State → ℕ → List ℕ
ancestors_within zero states s = []
ancestors_within (suc depth) states s = s ∷ option_map_or (ancestors_within depth states) (parent_of states s) []

-- a state and all states that contain it, from the inside out
unfoldable pub ancestors : List State → ℕ → List ℕ
ancestors states s = ancestors_within 8 states s

-- the states that properly contain a state, from the inside out
abbrev pub proper_ancestors : List State → ℕ → List ℕ
proper_ancestors states s = drop 1 (ancestors states s)

-- the innermost state that properly contains source and target; there may be none
abbrev pub least_common_proper_ancestor : List State → ℕ → ℕ → Option ℕ
least_common_proper_ancestor states source target = find (λ s. list_any (λ t. t == s) (proper_ancestors states target)) (proper_ancestors states source)

-- the states of a list of ancestors that lie below a state; with none, all of them
abbrev pub states_below : Option ℕ → List ℕ → List ℕ
states_below None way = way
states_below (Some container) way = take_while (λ s. not (s == container)) way

-- the child that is entered where the state with number s is
abbrev pub start_child : List State → ℕ → Option ℕ
start_child states s = position (is_start_child_of s) states

-- the start child of a state, its start child, and so on, at most so many
abbrev pub start_descendants_within : ℕ → List State → ℕ → List ℕ
start_descendants_within zero states s = []
start_descendants_within (suc depth) states s = option_map_or (λ child. child ∷ start_descendants_within depth states child) (start_child states s) []

-- the start children that are entered below a state, outermost first, down to a leaf
unfoldable pub start_descendants : List State → ℕ → List ℕ
start_descendants states s = start_descendants_within 8 states s
