-- What a text reads as, where it is a chart, and the first line and the first check that refuses it, where it is none.
use Rattle.std.specs.Prelude.{◌≡◌, ℕ, ℤ, List, [], ◌∷◌, map, Option, Some, None, Result, Ok, Err, unwrap_or}
use Rattle.lin_form.specs.declared.input.Input.{Input}
use Rattle.chart_model.specs.declared.action.Action.{Action}
use Rattle.chart_model.specs.declared.chart.Chart.{Chart}
use Rattle.chart_model.specs.declared.state.Memory.{Memory}
use Rattle.chart_model.specs.declared.state.State.{State}
use Rattle.line_tokens.specs.declared.error.TokenError.{TokenError}
use Rattle.text_lines.specs.Reading as lines
use Rattle.text_lines.specs.declared.read.LineError.{LineError}
use Rattle.text_lines.specs.declared.read.LineError.TheVariants as line_error
use Rattle.line_tokens.specs.Limits.{IsRefused}
use Rattle.line_forms.specs.declared.statement.InputForm.{InputForm}
use Rattle.line_forms.specs.declared.statement.MemoryForm.{MemoryForm}
use Rattle.line_forms.specs.declared.lexeme.Lexeme.{Lexeme}
use Rattle.line_forms.specs.declared.parsed.ParsedLine.{ParsedLine}
use Rattle.line_forms.specs.Forms.{IsStatement, value_of}
use Rattle.line_forms.specs.Parsing.{AreParsed, IsParsed}
use Rattle.chart_syntax.specs.declared.reader.DeclaredState.{DeclaredState}
use Rattle.chart_syntax.specs.declared.reader.Reader.{Reader}
use Rattle.chart_syntax.specs.declared.error.Refusal.{Refusal}
use Rattle.chart_syntax.specs.declared.error.Refusal.TheVariants.{Fault, Limit}
use Rattle.chart_syntax.specs.declared.error.ChartError.{ChartError}
use Rattle.chart_syntax.specs.declared.error.ChartError.TheVariants as chart_error
use Rattle.chart_syntax.specs.Checks.{checks, first_of, next, start, end_check, line_error_of}

abbrev pub refusal_in : LineError Refusal → Option Refusal
refusal_in (line_error.Refused refusal) = Some refusal
refusal_in line_error.Memory = None

-- what a line is parsed as: refused for its tokens, blank, or its first word and what it says
abbrev pub LineOf : Type 0 → Type 0
LineOf T = Result (Option (ParsedLine T)) TokenError

-- what refuses a line, by the check of a line that is not blank; a blank line is refused for its bytes alone
abbrev pub parsed_check : {S T : Type 0} → (S → ParsedLine T → Option Refusal) → S → LineOf T → Option Refusal
parsed_check check s (Err error) = refusal_in (line_error_of error)
parsed_check check s (Ok None) = None
parsed_check check s (Ok (Some parsed)) = check s parsed

-- what is declared after a line; a blank line declares nothing
abbrev pub parsed_next : {S T : Type 0} → (S → ParsedLine T → S) → S → LineOf T → S
parsed_next next s (Err error) = s
parsed_next next s (Ok None) = s
parsed_next next s (Ok (Some parsed)) = next s parsed

-- what a line leads to, or why it is refused, by the forms of its format, its check and what it declares
abbrev pub TakesBy : {S T : Type 0} → (List Lexeme → T → Type 0) → (S → ParsedLine T → Option Refusal)
    → (S → ParsedLine T → S) → S → List ℕ → Result S Refusal → Type 0
TakesBy Is check next = lines.StepBy (IsParsed (AreParsed Is))
    (λ s parsed refusal. parsed_check check s parsed ≡ refusal) (parsed_next next)

abbrev pub actions_of_line : Option (List Action) → List Action
actions_of_line line = unwrap_or line []

-- the states with their entry and exit actions
abbrev pub states_of : List DeclaredState → List (Option (List Action)) → List (Option (List Action)) → List State
states_of [] entries exits = []
states_of (state ∷ states) [] exits = []
states_of (state ∷ states) (entry ∷ entries) [] = []
states_of (state ∷ states) (entry ∷ entries) (exit ∷ exits) =
    record {
      name = state.name;
      parent = state.parent;
      start = state.start;
      entry = actions_of_line entry;
      exit = actions_of_line exit;
    } ∷ states_of states entries exits

abbrev pub memory_of : MemoryForm → Memory
memory_of form = record {
  name = form.name;
  lo = value_of form.lo;
  hi = value_of form.hi;
  initial = value_of form.value;
}

abbrev pub bounds_of_input : Input → List ℕ × ℤ × ℤ
bounds_of_input input = (input.name, input.lo, input.hi)

abbrev pub bounds_of_form : InputForm → List ℕ × ℤ × ℤ
bounds_of_form form = (form.name, value_of form.lo, value_of form.hi)

-- the chart's lists are what was declared, in order
pub record IsContent (s : Reader) (chart : Chart) : Type 0 where
  pub inputs : map bounds_of_input chart.signature.inputs ≡ map bounds_of_form s.inputs
  pub outputs : chart.signature.outputs ≡ map (λ form. form.name) s.outputs
  pub initial : chart.initial ≡ map (λ form. value_of form.value) s.outputs
  pub assumed : chart.assumed ≡ s.assumed
  pub memories : chart.memories ≡ map memory_of s.memories
  pub states : chart.states ≡ states_of s.states s.entries s.exits
  pub transitions : chart.transitions ≡ s.transitions

-- what a line of a chart leads to, or why it is refused
abbrev pub TakesLine : Reader → List ℕ → Result Reader Refusal → Type 0
TakesLine = TakesBy IsStatement (first_of checks) next

-- the text is a chart, and this is the chart
abbrev pub Reads : List ℕ → Chart → Type 0
Reads text chart = lines.Reads TakesLine end_check IsContent start text chart

-- the text is no chart: of the line with this number, from 1, the first check that meets a line refuses it; what is
-- missing at the end has the number after the last line's
abbrev pub Refuses : List ℕ → ℕ → Refusal → Type 0
Refuses text line refusal = lines.Refuses TakesLine end_check start text line refusal

-- the error tells why a text is refused, or that there was no memory
abbrev pub IsRefusedBy : (ℕ → Refusal → Type 0) → ChartError → Type 0
IsRefusedBy refuses (chart_error.Fault line kind) = refuses line (Fault kind)
IsRefusedBy refuses (chart_error.Limit line which) = refuses line (Limit which)
IsRefusedBy refuses chart_error.Memory = Unit {0}

-- the tokens of the line are none, or pass a limit, as line 1 of a text
pub record IsTokenRefusal (line : List ℕ) (n : ℕ) (refusal : Refusal) : Type 0 where
  pub error : TokenError
  pub place : n ≡ 1
  pub refused : IsRefused line error
  pub is : refusal_in (line_error_of error) ≡ Some refusal

-- for a text there is exactly one reading or exactly one refusal
abbrev pub IsDecided : List ℕ → Type 0
IsDecided text = lines.IsDecided (Reads text) (Refuses text)
