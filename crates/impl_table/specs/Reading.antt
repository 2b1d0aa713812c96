-- The checks of a line of a table in their order, what a text reads as, where it is a table, and what refuses it, where
-- it is none.
use Rattle.std.specs.Prelude.{◌≡◌, ℕ, Bool, true, false, not, ◌&&◌, ◌||◌, if◌then◌else◌, ◌==◌, nat_lt, nat_le, int_lt}
use Rattle.std.specs.Prelude.{List, [], ◌∷◌, ◌++◌, length, map, position, Option, Some, None, option_map, unwrap_or}
use Rattle.std.specs.Prelude.{ℤ, is_some, Result}
use Rattle.std.specs.List.{list_any}
use Rattle.std.specs.Option.{option_map_or, option_or}
use Rattle.text_lines.specs.Reading.{Reads, Refuses}
use Rattle.line_forms.specs.declared.keyword.Keyword.{Keyword}
use Rattle.line_forms.specs.declared.keyword.Keyword.TheVariants as keyword
use Rattle.line_forms.specs.declared.parsed.ParsedLine.{ParsedLine}
use Rattle.line_forms.specs.Forms.{value_of}
use Rattle.line_forms.specs.Trees.{Tree, tests_of}
use Rattle.line_checks.specs.declared.scope.NameFault.{NameFault}
use Rattle.line_checks.specs.Names.{Names, is_same}
use Rattle.line_checks.specs.Guards.{guard_check, guard_of}
use Rattle.chart_syntax.specs.declared.error.Kind.TheVariants as kind
use Rattle.chart_syntax.specs.declared.error.Which.TheVariants as which
use Rattle.chart_syntax.specs.declared.error.Refusal.{Refusal}
use Rattle.chart_syntax.specs.declared.error.Refusal.TheVariants.{Fault}
use Rattle.chart_syntax.specs.Checks.{fault_check, limit_check}
use Rattle.chart_syntax.specs.Reading.{bounds_of_input, bounds_of_form, TakesBy}
use Rattle.impl_table.specs.declared.form.ReplyNumber.{ReplyNumber}
use Rattle.impl_table.specs.declared.form.StateForm.{StateForm}
use Rattle.impl_table.specs.declared.form.RowForm.{RowForm}
use Rattle.impl_table.specs.declared.form.TableForm.{TableForm}
use Rattle.impl_table.specs.declared.form.TableForm.TheVariants as form
use Rattle.impl_table.specs.declared.reader.Declared.{Declared}
use Rattle.impl_table.specs.declared.table.TableState.{TableState}
use Rattle.impl_table.specs.declared.table.Row.{Row}
use Rattle.impl_table.specs.declared.table.Table.{Table}
use Rattle.impl_table.specs.Forms as forms
use Rattle.impl_table.specs.Forms.{IsTableForm}

-- check 5: the first line is `table 1`, and a later line begins with a word that begins lines

abbrev pub is_version : Option TableForm → Bool
is_version (Some (form.Version n)) = n == 1
is_version other = false

-- the group of a line by its first word, 0 where no line begins with it
abbrev pub group_of : Option Keyword → ℕ
group_of (Some keyword.Input) = 1
group_of (Some keyword.Output) = 2
group_of (Some keyword.State) = 3
group_of (Some keyword.Row) = 4
group_of other = 0

abbrev pub version_check : Declared → ParsedLine TableForm → Option Refusal
version_check s parsed = fault_check (not s.begun && not (is_version parsed.form)) kind.Version

abbrev pub word_check : Declared → ParsedLine TableForm → Option Refusal
word_check s parsed = fault_check (s.begun && group_of parsed.head == 0) kind.NoSuchLine

-- check 6: no line of a later group stands before it

abbrev pub order_check : Declared → ParsedLine TableForm → Option Refusal
order_check s parsed = fault_check (s.begun && nat_lt (group_of parsed.head) s.group) kind.Misplaced

-- check 7: the line has a form, and a reply has a number for each output

abbrev pub is_formed : ℕ → Option TableForm → Bool
is_formed outputs None = false
is_formed outputs (Some (form.State f)) = length f.reply == outputs
is_formed outputs (Some (form.Row f)) = length f.reply == outputs
is_formed outputs (Some other) = true

abbrev pub form_check : Declared → ParsedLine TableForm → Option Refusal
form_check s parsed = fault_check (not (is_formed (length s.outputs) parsed.form)) kind.Form

-- check 8

abbrev pub comparisons_check : TableForm → Option Refusal
comparisons_check (form.Row f) = limit_check (nat_lt 64 (option_map_or tests_of f.guard 0)) which.Comparisons
comparisons_check other = None

-- check 9: names from left to right; inputs and outputs are one space of names, states are another

abbrev pub is_variable : Declared → List ℕ → Bool
is_variable s name = list_any (λ f. is_same name f.name) s.inputs || list_any (is_same name) s.outputs

-- the number of the state of a name
abbrev pub state_of : Declared → List ℕ → Option ℕ
state_of s name = position (λ state. is_same name state.name) s.states

abbrev pub state_check : Declared → List ℕ → Option Refusal
state_check s name = fault_check (not (is_some (state_of s name))) kind.Unknown

-- a guard has inputs alone
abbrev pub scope_of : Declared → Names
scope_of s = record { inputs = map (λ f. f.name) s.inputs; memories = []; misused = [] }

abbrev pub unknown : Option NameFault → Option Refusal
unknown None = None
unknown (Some fault) = Some (Fault kind.Unknown)

abbrev pub when_check : Declared → Option Tree → Option Refusal
when_check s None = None
when_check s (Some guard) = unknown (guard_check (scope_of s) guard)

abbrev pub names_check : Declared → TableForm → Option Refusal
names_check s (form.Version n) = None
names_check s (form.Input f) = fault_check (is_variable s f.name) kind.Double
names_check s (form.Output name) = fault_check (is_variable s name) kind.Double
names_check s (form.State f) = fault_check (is_some (state_of s f.name)) kind.Double
names_check s (form.Row f) = option_or (state_check s f.from) (option_or (when_check s f.guard) (state_check s f.to))

-- check 10

abbrev pub range_check : TableForm → Option Refusal
range_check (form.Input f) = fault_check (int_lt (value_of f.hi) (value_of f.lo)) kind.Range
range_check other = None

-- check 12

abbrev pub count_check : Declared → TableForm → Option Refusal
count_check s (form.Version n) = None
count_check s (form.Input f) = limit_check (nat_le 6 (length s.inputs)) which.Inputs
count_check s (form.Output name) = limit_check (nat_le 8 (length s.outputs)) which.Outputs
count_check s (form.State f) = limit_check (nat_le 1024 (length s.states)) which.States
count_check s (form.Row f) = limit_check (nat_le 4096 (length s.rows)) which.Rows

abbrev pub said_check : Declared → TableForm → Option Refusal
said_check s said = option_or (comparisons_check said) (option_or (names_check s said)
    (option_or (range_check said) (count_check s said)))

-- what is said is checked where the line has a form
abbrev pub some_check : Declared → Option TableForm → Option Refusal
some_check s None = None
some_check s (Some said) = said_check s said

-- checks 5 to 7, in their order
abbrev pub front_check : Declared → ParsedLine TableForm → Option Refusal
front_check s parsed = option_or (version_check s parsed) (option_or (word_check s parsed)
    (option_or (order_check s parsed) (form_check s parsed)))

-- the checks of a line with tokens, in their order
abbrev pub line_check : Declared → ParsedLine TableForm → Option Refusal
line_check s parsed = option_or (front_check s parsed) (some_check s parsed.form)

-- what is declared after a line

abbrev pub reply_of : List ReplyNumber → List ℤ
reply_of numbers = map forms.value_of numbers

abbrev pub state_in : StateForm → TableState
state_in f = record { name = f.name; reply = reply_of f.reply }

abbrev pub row_in : Declared → RowForm → Row
row_in s f = record {
  from = unwrap_or (state_of s f.from) 0;
  guard = option_map (guard_of (scope_of s) (length s.inputs)) f.guard;
  reply = reply_of f.reply;
  to = unwrap_or (state_of s f.to) 0;
}

abbrev pub next : Declared → TableForm → Declared
next s (form.Version n) = record s { begun = true }
next s (form.Input f) = record s { group = 1; inputs = s.inputs ++ f ∷ [] }
next s (form.Output name) = record s { group = 2; outputs = s.outputs ++ name ∷ [] }
next s (form.State f) = record s { group = 3; states = s.states ++ state_in f ∷ [] }
next s (form.Row f) = record s { group = 4; rows = s.rows ++ row_in s f ∷ [] }

abbrev pub some_next : Declared → Option TableForm → Declared
some_next s None = s
some_next s (Some said) = next s said

-- what a line leads to, or why it is refused
abbrev pub TakesRow : Declared → List ℕ → Result Declared Refusal → Type 0
TakesRow = TakesBy IsTableForm line_check (λ s parsed. some_next s parsed.form)

-- what is checked where the text ends
abbrev pub is_missing : Declared → Bool
is_missing s = length s.inputs == 0 || length s.outputs == 0 || length s.states == 0

abbrev pub end_check : Declared → Option Refusal
end_check s =
    if not s.begun then Some (Fault kind.Version) else if is_missing s then Some (Fault kind.Missing) else None

-- nothing is read
abbrev pub start : Declared
start = record { begun = false; group = 0; inputs = []; outputs = []; states = []; rows = [] }

-- the table's lists are what was declared, in order
pub record IsContent (s : Declared) (table : Table) : Type 0 where
  pub inputs : map bounds_of_input table.signature.inputs ≡ map bounds_of_form s.inputs
  pub outputs : table.signature.outputs ≡ s.outputs
  pub states : table.states ≡ s.states
  pub rows : table.rows ≡ s.rows

-- the text is a table, and this is the table
abbrev pub ReadsTable : List ℕ → Table → Type 0
ReadsTable text table = Reads TakesRow end_check IsContent start text table

-- the text is no table: of the line with this number, from 1, the first check that meets a line refuses it; what is
-- missing at the end has the number after the last line's
abbrev pub RefusesTable : List ℕ → ℕ → Refusal → Type 0
RefusesTable text line refusal = Refuses TakesRow end_check start text line refusal
