-- What is kept from line to line, and what functions answer that check and take what a line says.
use Rattle.std.specs.Prelude.{◌≡◌, ℕ, ◌<◌, ◌≤◌, length, Option, Some, None, Result, Ok, Err}
use Rattle.std.specs.List.{All}
use Rattle.std.specs.Option.{ForSome}
use Rattle.lin_form.specs.Range.{IsRange}
use Rattle.chart_model.specs.Guard.{IsReadableGuard}
use Rattle.text_lines.specs.declared.read.LineError.{LineError}
use Rattle.text_lines.specs.declared.read.LineError.TheVariants as line_error
use Rattle.line_forms.specs.declared.statement.InputForm.{InputForm}
use Rattle.line_forms.specs.Forms.{value_of}
use Rattle.chart_syntax.specs.declared.error.Refusal.{Refusal}
use Rattle.impl_table.specs.declared.reader.Declared.{Declared}
use Rattle.impl_table.specs.declared.table.Row.{Row}
use Rattle.impl_table.specs.Table.{IsRow}

abbrev pub HasRange : InputForm → Type 0
HasRange form = IsRange (value_of form.lo) (value_of form.hi)

-- the counts of what was declared are within the limits
pub record AreFew (s : Declared) : Type 0 where
  pub inputs : length s.inputs ≤ 6
  pub outputs : length s.outputs ≤ 8
  pub states : length s.states ≤ 1024
  pub rows : length s.rows ≤ 4096

-- what everything that was declared keeps
pub record IsPartial (s : Declared) : Type 0 where
  pub few : AreFew s
  pub ranges : All HasRange s.inputs
  pub replies : All (λ state. length state.reply ≡ length s.outputs) s.states
  pub moves : All (IsRow (length s.inputs) (length s.outputs) (length s.states)) s.rows
  pub states_behind : 0 < length s.states → 3 ≤ s.group
  pub rows_behind : 0 < length s.rows → 4 ≤ s.group

-- the guard of a row can be read on vectors of so many numbers
abbrev pub IsReadableRow : ℕ → Row → Type 0
IsReadableRow numbers row = ForSome row.guard (IsReadableGuard numbers)

-- what a function answers that checks what a line says and takes it: it passes and this is declared, or what refuses it
abbrev pub Declares : Option Refusal → Declared → Declared → Result (Unit {0}) (LineError Refusal) → Type 0
Declares check after new (Ok u) = (check ≡ None) × (new ≡ after)
Declares check after new (Err (line_error.Refused refusal)) = check ≡ Some refusal
Declares check after new (Err line_error.Memory) = Unit {0}

-- what a function answers that resolves a part of a line and takes memory: it passes and this is its content, or what
-- refuses it
abbrev pub Resolves : {T : Type 0} → Option Refusal → T → Result T (LineError Refusal) → Type 0
Resolves check content (Ok x) = (check ≡ None) × (x ≡ content)
Resolves check content (Err (line_error.Refused refusal)) = check ≡ Some refusal
Resolves check content (Err line_error.Memory) = Unit {0}
