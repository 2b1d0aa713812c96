-- The checks of a line of a chart in their order, what a line declares, and what is checked at the end.
use Rattle.std.specs.Prelude.{ℕ, ◌+◌, ◌*◌, ℤ, pos, ◌-ℤ◌, Bool, true, false, not, ◌&&◌, ◌||◌, if◌then◌else◌}
use Rattle.std.specs.Prelude.{◌==◌, nat_lt, nat_le, int_lt, List, [], ◌∷◌, ◌++◌, length, map, unsigned_abs}
use Rattle.std.specs.Prelude.{slice_get, slice_set, Option, Some, None, is_some, unwrap_or, option_map}
use Rattle.std.specs.Prelude.{option_and_then}
use Rattle.std.specs.List.{list_any, list_all}
use Rattle.std.specs.Option.{option_map_or, option_or}
use Rattle.std.specs.Ordering.{int_eq}
use Rattle.lin_form.specs.declared.form.Comparison.{Comparison}
use Rattle.line_tokens.specs.declared.error.TokenLimit.{TokenLimit}
use Rattle.line_tokens.specs.declared.error.TokenLimit.TheVariants as token_limit
use Rattle.line_tokens.specs.declared.error.TokenError.{TokenError}
use Rattle.line_tokens.specs.declared.error.TokenError.TheVariants as token_error
use Rattle.line_forms.specs.declared.keyword.Keyword.{Keyword}
use Rattle.line_forms.specs.declared.keyword.Keyword.TheVariants as keyword
use Rattle.line_forms.specs.declared.statement.ActionForm.{ActionForm}
use Rattle.line_forms.specs.declared.statement.MemoryForm.{MemoryForm}
use Rattle.line_forms.specs.declared.statement.StateForm.{StateForm}
use Rattle.line_forms.specs.declared.statement.OnForm.{OnForm}
use Rattle.line_forms.specs.declared.statement.Statement.{Statement}
use Rattle.line_forms.specs.declared.statement.Statement.TheVariants as says
use Rattle.line_forms.specs.declared.parsed.ParsedLine.{ParsedLine}
use Rattle.line_forms.specs.Trees as written
use Rattle.line_forms.specs.Forms.{value_of}
use Rattle.chart_model.specs.declared.action.Action.{Action}
use Rattle.chart_model.specs.declared.action.Place.{Place}
use Rattle.chart_model.specs.declared.action.Place.TheVariants as place
use Rattle.chart_model.specs.declared.transition.Transition.{Transition}
use Rattle.chart_syntax.specs.declared.reader.DeclaredState.{DeclaredState}
use Rattle.chart_syntax.specs.declared.resolve.Resolved.{Resolved}
use Rattle.chart_syntax.specs.declared.resolve.Resolved.TheVariants as resolved
use Rattle.chart_syntax.specs.declared.reader.Reader.{Reader}
use Rattle.chart_syntax.specs.declared.error.Kind.{Kind}
use Rattle.chart_syntax.specs.declared.error.Kind.TheVariants as kind
use Rattle.chart_syntax.specs.declared.error.Which.{Which}
use Rattle.chart_syntax.specs.declared.error.Which.TheVariants as which
use Rattle.chart_syntax.specs.declared.error.Refusal.{Refusal}
use Rattle.chart_syntax.specs.declared.error.Refusal.TheVariants.{Fault, Limit}
use Rattle.text_lines.specs.declared.read.LineError.{LineError}
use Rattle.text_lines.specs.declared.read.LineError.TheVariants as line_error
use Rattle.chart_syntax.specs.declared.error.ChartError.{ChartError}
use Rattle.chart_syntax.specs.declared.error.ChartError.TheVariants as chart_error
use Rattle.line_checks.specs.Names.{has_name, place_of, use_check}
use Rattle.line_checks.specs.Sums.{sum_check, test_check, value_form_of}
use Rattle.line_checks.specs.Guards.{guard_check, guard_of}
use Rattle.chart_syntax.specs.Scopes.{input_names, output_names, memory_names, guard_scope, assumption_scope}
use Rattle.chart_syntax.specs.Scopes.{action_scope, assumption_of, told}

-- checks 1 to 4: what a line is refused for whose tokens are none, or pass a limit

abbrev pub which_of : TokenLimit → Which
which_of token_limit.Literal = which.Literal
which_of token_limit.NameBytes = which.NameBytes
which_of token_limit.Tokens = which.Tokens
which_of token_limit.Nesting = which.Nesting

abbrev pub line_error_of : TokenError → LineError Refusal
line_error_of token_error.Byte = line_error.Refused (Fault kind.Byte)
line_error_of (token_error.Limit limit) = line_error.Refused (Limit (which_of limit))
line_error_of token_error.Memory = line_error.Memory

abbrev pub refused_at : ℕ → LineError Refusal → ChartError
refused_at line (line_error.Refused (Fault kind)) = chart_error.Fault line kind
refused_at line (line_error.Refused (Limit which)) = chart_error.Limit line which
refused_at line line_error.Memory = chart_error.Memory

-- a check of what a line says, given what the lines before it declared
abbrev pub Check : Type 0 → Type 0
Check L = Reader → L → Option Refusal

-- what the first check that meets a line refuses it for
abbrev pub first_of : {L : Type 0} → List (Check L) → Reader → L → Option Refusal
first_of [] s l = None
first_of (check ∷ checks) s l = option_or (check s l) (first_of checks s l)

abbrev pub state_names : Reader → List (List ℕ)
state_names s = map (λ state. state.name) s.states

abbrev pub fault_check : Bool → Kind → Option Refusal
fault_check met kind = if met then Some (Fault kind) else None

-- nothing is read
abbrev pub start : Reader
start = record {
  version = 0;
  group = 0;
  inputs = [];
  assumed = [];
  outputs = [];
  memories = [];
  product = 1;
  states = [];
  entries = [];
  exits = [];
  transitions = [];
}

-- check 5

abbrev pub is_version : Option Statement → Bool
is_version (Some (says.Chart n)) = n == 1 || n == 2 || n == 3
is_version other = false

-- the first line is the stated one
abbrev pub version_check : ℕ → Option Statement → Option Refusal
version_check version form = fault_check (version == 0 && not (is_version form)) kind.Version

-- the group of a line by its first word, 0 where no line begins with it; in version 1 there are no assumptions
abbrev pub group_of : ℕ → Option Keyword → ℕ
group_of version (Some keyword.Input) = 1
group_of version (Some keyword.Assume) = if version == 1 then 0 else 2
group_of version (Some keyword.Output) = 3
group_of version (Some keyword.Memory) = 4
group_of version (Some keyword.State) = 5
group_of version (Some keyword.Entry) = 6
group_of version (Some keyword.Exit) = 6
group_of version (Some keyword.On) = 6
group_of version other = 0

-- a later line begins with a word that begins lines
abbrev pub word_check : ℕ → Option Keyword → Option Refusal
word_check version head = fault_check (not (version == 0) && group_of version head == 0) kind.NoSuchLine

abbrev pub first_word_check : Check (ParsedLine Statement)
first_word_check s l = option_or (version_check s.version l.form) (word_check s.version l.head)

-- check 6: a later line stands after no line of a later group
abbrev pub order_check : Check (ParsedLine Statement)
order_check s l = fault_check (not (s.version == 0) && nat_lt (group_of s.version l.head) s.group) kind.Misplaced

-- check 7: the tokens derive from a form; the word `history` is one of version 3
abbrev pub is_formed : ℕ → Option Statement → Bool
is_formed version None = false
is_formed version (Some (says.On f)) = not f.history || version == 3
is_formed version (Some other) = true

abbrev pub form_check : Check (ParsedLine Statement)
form_check s l = fault_check (not (is_formed s.version l.form)) kind.Form

-- check 8
abbrev pub comparisons_check : Check Statement
comparisons_check s (says.On f) = if nat_lt 64 (option_map_or written.tests_of f.guard 0)
    then Some (Limit which.Comparisons) else None
comparisons_check s other = None

-- check 9: names from left to right

-- a name is new in its space
abbrev pub double_check : Bool → Option Refusal
double_check declared = fault_check declared kind.Double

abbrev pub is_variable : Reader → List ℕ → Bool
is_variable s name = has_name name (input_names s) || has_name name (output_names s)
    || has_name name (memory_names s)

abbrev pub state_check : Reader → List ℕ → Option Refusal
state_check s name = told (use_check (place_of name (state_names s)) false)

-- the state after `in`, where there is one
abbrev pub some_state_check : Reader → Option (List ℕ) → Option Refusal
some_state_check s None = None
some_state_check s (Some name) = state_check s name

-- an action assigns a memory or an output
abbrev pub place_in : Option ℕ → Option ℕ → Option Place
place_in (Some j) output = Some (place.Memory j)
place_in None (Some k) = Some (place.Output k)
place_in None None = None

abbrev pub place_of_name : Reader → List ℕ → Option Place
place_of_name s name = place_in (place_of name (memory_names s)) (place_of name (output_names s))

abbrev pub place_check : Reader → List ℕ → Option Refusal
place_check s name = told (use_check (place_of_name s name) (has_name name (input_names s)))

abbrev pub action_check : Reader → ActionForm → Option Refusal
action_check s a = option_or (place_check s a.name) (told (sum_check (action_scope s) a.sum))

abbrev pub actions_check : Reader → List ActionForm → Option Refusal
actions_check s [] = None
actions_check s (a ∷ more) = option_or (action_check s a) (actions_check s more)

abbrev pub when_check : Reader → Option written.Tree → Option Refusal
when_check s None = None
when_check s (Some g) = told (guard_check (guard_scope s) g)

-- a state is the parent of one
abbrev pub is_child_of : ℕ → DeclaredState → Bool
is_child_of k state = option_map_or (λ parent. parent == k) state.parent false

abbrev pub is_parent : Reader → ℕ → Bool
is_parent s k = list_any (is_child_of k) s.states

-- the target is a state, and one with children before the word `history`
abbrev pub found_target_check : Reader → Option ℕ → Bool → Option Refusal
found_target_check s None history = Some (Fault kind.Unknown)
found_target_check s (Some k) history = fault_check (history && not (is_parent s k)) kind.Misuse

abbrev pub target_check : Reader → Option (List ℕ) → Bool → Option Refusal
target_check s None history = None
target_check s (Some name) history = found_target_check s (place_of name (state_names s)) history

abbrev pub names_check : Check Statement
names_check s (says.Chart n) = None
names_check s (says.Input f) = double_check (is_variable s f.name)
names_check s (says.Assume t) = told (test_check (assumption_scope s) t)
names_check s (says.Output f) = double_check (is_variable s f.name)
names_check s (says.Memory f) = double_check (is_variable s f.name)
names_check s (says.State f) = option_or (double_check (has_name f.name (state_names s))) (some_state_check s f.parent)
names_check s (says.Entry f) = option_or (state_check s f.state) (actions_check s f.actions)
names_check s (says.Exit f) = option_or (state_check s f.state) (actions_check s f.actions)
names_check s (says.On f) = option_or (state_check s f.source)
    (option_or (when_check s f.guard) (option_or (actions_check s f.effect) (target_check s f.target f.history)))

-- check 10: a range has a number, a memory's value lies in its range, and an assumption speaks of an input

abbrev pub is_outside : MemoryForm → Bool
is_outside f = int_lt (value_of f.hi) (value_of f.lo) || int_lt (value_of f.value) (value_of f.lo)
    || int_lt (value_of f.hi) (value_of f.value)

abbrev pub is_zero : ℤ → Bool
is_zero z = int_eq z (pos 0)

abbrev pub is_constant : Comparison → Bool
is_constant comparison = list_all is_zero comparison.form.inputs

abbrev pub range_check : Check Statement
range_check s (says.Input f) = fault_check (int_lt (value_of f.hi) (value_of f.lo)) kind.Range
range_check s (says.Assume t) = fault_check (is_constant (assumption_of s t)) kind.Range
range_check s (says.Memory f) = fault_check (is_outside f) kind.Range
range_check s other = None

-- check 11: one start child of each parent, one start without a parent, and one entry and one exit line of each state

abbrev pub same_parent : Option ℕ → Option ℕ → Bool
same_parent None None = true
same_parent (Some j) (Some k) = j == k
same_parent a b = false

-- the state is the one that is entered where its parent, or the chart, is
abbrev pub is_start_under : Option ℕ → DeclaredState → Bool
is_start_under parent state = state.start && same_parent state.parent parent

-- the number of the first declaration of a name that is declared
abbrev pub number_of : List ℕ → List (List ℕ) → ℕ
number_of name names = unwrap_or (place_of name names) 0

-- the number of the parent, where there is one
abbrev pub parent_number : Reader → Option (List ℕ) → Option ℕ
parent_number s name = option_and_then (λ parent. place_of parent (state_names s)) name

-- a state has its line already
abbrev pub has_line : List (Option (List Action)) → ℕ → Bool
has_line lines k = option_map_or is_some (slice_get lines k) false

abbrev pub start_check : Check Statement
start_check s (says.State f) = fault_check
    (f.start && list_any (is_start_under (parent_number s f.parent)) s.states) kind.Start
start_check s (says.Entry f) = fault_check (has_line s.entries (number_of f.state (state_names s))) kind.Twice
start_check s (says.Exit f) = fault_check (has_line s.exits (number_of f.state (state_names s))) kind.Twice
start_check s other = None

-- check 12: counts

abbrev pub memory_size : MemoryForm → ℕ
memory_size f = unsigned_abs (value_of f.hi -ℤ value_of f.lo) + 1

abbrev pub is_bounded : MemoryForm → Bool
is_bounded f = nat_le (unsigned_abs (value_of f.lo)) 1000 && nat_le (unsigned_abs (value_of f.hi)) 1000

abbrev pub depth_under : Reader → Option ℕ → ℕ
depth_under s parent = option_map_or (λ above. above.depth) (option_and_then (slice_get s.states) parent) 0 + 1

abbrev pub limit_check : Bool → Which → Option Refusal
limit_check passed limit = if passed then Some (Limit limit) else None

abbrev pub count_check : Check Statement
count_check s (says.Chart n) = None
count_check s (says.Input f) = limit_check (nat_le 6 (length s.inputs)) which.Inputs
count_check s (says.Assume t) = limit_check (nat_le 16 (length s.assumed)) which.Assumptions
count_check s (says.Output f) = limit_check (nat_le 8 (length s.outputs)) which.Outputs
count_check s (says.Memory f) = option_or (limit_check (nat_le 4 (length s.memories)) which.Memories)
    (option_or (limit_check (not (is_bounded f)) which.Bound)
    (limit_check (nat_lt 256 (s.product * memory_size f)) which.Product))
count_check s (says.State f) = option_or (limit_check (nat_le 64 (length s.states)) which.States)
    (limit_check (nat_lt 8 (depth_under s (parent_number s f.parent))) which.Depth)
count_check s (says.Entry f) = None
count_check s (says.Exit f) = None
count_check s (says.On f) = limit_check (nat_le 256 (length s.transitions)) which.Transitions

-- the checks of what a line says
abbrev pub statement_checks : List (Check Statement)
statement_checks = comparisons_check ∷ names_check ∷ range_check ∷ start_check ∷ count_check ∷ []

abbrev pub on_some : Check Statement → Reader → Option Statement → Option Refusal
on_some check s None = None
on_some check s (Some said) = check s said

-- a check of what a line says, which is made where its tokens derive from a form
abbrev pub on_form : Check Statement → Check (ParsedLine Statement)
on_form check s l = on_some check s l.form

-- all checks of a line with tokens, in their order
abbrev pub checks : List (Check (ParsedLine Statement))
checks = first_word_check ∷ order_check ∷ form_check ∷ on_form comparisons_check ∷ on_form names_check
    ∷ on_form range_check ∷ on_form start_check ∷ on_form count_check ∷ []

-- what a line declares

abbrev pub action_of : Reader → ActionForm → Action
action_of s a = record { place = unwrap_or (place_of_name s a.name) (place.Output 0); value = value_form_of (action_scope s) (length s.inputs) a.sum }

abbrev pub actions_of : Reader → List ActionForm → List Action
actions_of s actions = map (action_of s) actions

abbrev pub transition_of : Reader → OnForm → Transition
transition_of s f = record {
  source = number_of f.source (state_names s);
  guard = option_map (guard_of (guard_scope s) (length s.inputs)) f.guard;
  effect = actions_of s f.effect;
  target = option_map (λ name. number_of name (state_names s)) f.target;
  history = f.history;
}

abbrev pub declared_state : Reader → StateForm → DeclaredState
declared_state s f = record {
  name = f.name;
  parent = parent_number s f.parent;
  start = f.start;
  depth = depth_under s (parent_number s f.parent);
}

-- what the names of a line stand for, where they pass
abbrev pub resolved_of : Reader → Statement → Resolved
resolved_of s (says.Assume t) = resolved.Assumption (assumption_of s t)
resolved_of s (says.State f) = resolved.Parent (parent_number s f.parent)
resolved_of s (says.Entry f) = resolved.Actions (number_of f.state (state_names s)) (actions_of s f.actions)
resolved_of s (says.Exit f) = resolved.Actions (number_of f.state (state_names s)) (actions_of s f.actions)
resolved_of s (says.On f) = resolved.Transition (transition_of s f)
resolved_of s other = resolved.Nothing

-- what is declared with one thing more

abbrev pub with_assumption : Reader → Comparison → Reader
with_assumption s comparison = record s { group = 2; assumed = s.assumed ++ comparison ∷ [] }

abbrev pub with_state : Reader → DeclaredState → Reader
with_state s state = record s {
  group = 5;
  states = s.states ++ state ∷ [];
  entries = s.entries ++ None ∷ [];
  exits = s.exits ++ None ∷ [];
}

abbrev pub with_entry : Reader → ℕ → List Action → Reader
with_entry s k actions = record s { group = 6; entries = slice_set s.entries k (Some actions) }

abbrev pub with_exit : Reader → ℕ → List Action → Reader
with_exit s k actions = record s { group = 6; exits = slice_set s.exits k (Some actions) }

abbrev pub with_transition : Reader → Transition → Reader
with_transition s transition = record s { group = 6; transitions = s.transitions ++ transition ∷ [] }

-- what is declared after a line
abbrev pub next_statement : Reader → Statement → Reader
next_statement s (says.Chart n) = record s { version = n }
next_statement s (says.Input f) = record s { group = 1; inputs = s.inputs ++ f ∷ [] }
next_statement s (says.Assume t) = with_assumption s (assumption_of s t)
next_statement s (says.Output f) = record s { group = 3; outputs = s.outputs ++ f ∷ [] }
next_statement s (says.Memory f) = record s {
  group = 4;
  memories = s.memories ++ f ∷ [];
  product = s.product * memory_size f;
}
next_statement s (says.State f) = with_state s (declared_state s f)
next_statement s (says.Entry f) = with_entry s (number_of f.state (state_names s)) (actions_of s f.actions)
next_statement s (says.Exit f) = with_exit s (number_of f.state (state_names s)) (actions_of s f.actions)
next_statement s (says.On f) = with_transition s (transition_of s f)

abbrev pub next_form : Reader → Option Statement → Reader
next_form s None = s
next_form s (Some said) = next_statement s said

abbrev pub next : Reader → ParsedLine Statement → Reader
next s l = next_form s l.form

-- what is checked where the text ends

-- no state without a parent is marked `start`
abbrev pub lacks_top_start : Reader → Bool
lacks_top_start s = not (list_any (is_start_under None) s.states)

-- the parent of a state has no start child
abbrev pub lacks_start : List DeclaredState → DeclaredState → Bool
lacks_start states state = is_some state.parent && not (list_any (is_start_under state.parent) states)

abbrev pub lacks_start_child : Reader → Bool
lacks_start_child s = list_any (lacks_start s.states) s.states

abbrev pub is_missing : Reader → Bool
is_missing s = length s.inputs == 0 || length s.outputs == 0 || length s.states == 0 || lacks_top_start s
    || lacks_start_child s

abbrev pub end_check : Reader → Option Refusal
end_check s = if s.version == 0 then Some (Fault kind.Version) else if is_missing s then Some (Fault kind.Missing)
    else None

-- what a line's names stand for, by what it says

abbrev pub constant_in : Resolved → Bool
constant_in (resolved.Assumption comparison) = is_constant comparison
constant_in other = false

abbrev pub parent_in : Resolved → Option ℕ
parent_in (resolved.Parent parent) = parent
parent_in other = None

abbrev pub state_in : Resolved → ℕ
state_in (resolved.Actions k actions) = k
state_in other = 0
