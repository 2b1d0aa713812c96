-- What a text reads as, where it is a word over a chart: a list of vectors of the chart's box; and the first line and
-- the first check that refuses it, where it is none.
use Rattle.std.specs.Prelude.{◌≡◌, ℕ, ℤ, List, [], ◌∷◌, ◌++◌, length, map, Option, Some, None, Result, Ok, Err, ◌⊎◌}
use Rattle.chart_model.specs.declared.chart.Chart.{Chart}
use Rattle.chart_model.specs.Box as box
use Rattle.text_lines.specs.Reading as lines
use Rattle.line_forms.specs.declared.statement.Signed.{Signed}
use Rattle.line_forms.specs.declared.lexeme.Lexeme.{Lexeme}
use Rattle.line_forms.specs.Forms.{AreNumbers, value_of}
use Rattle.line_forms.specs.Parsing.{AreParsed, IsParsed}
use Rattle.chart_syntax.specs.declared.error.Kind.TheVariants as kind
use Rattle.chart_syntax.specs.declared.error.Refusal.{Refusal}
use Rattle.chart_syntax.specs.declared.error.Refusal.TheVariants.{Fault}
use Rattle.chart_syntax.specs.Checks.{line_error_of}
use Rattle.chart_syntax.specs.Reading.{LineOf, refusal_in}

-- a vector of the chart's box: one number per input, each in its input's range, and every assumption holds
abbrev pub IsInBox : Chart → List ℤ → Type 0
IsInBox chart vector = box.IsInBox chart vector

-- the numbers of a line
abbrev pub vector_of : List Signed → List ℤ
vector_of numbers = map value_of numbers

-- there is a number for each input
abbrev pub IsWhole : Chart → List ℤ → Type 0
IsWhole chart vector = length vector ≡ length chart.signature.inputs

-- a line's numbers are refused for their count, or as outside the box, or pass
abbrev pub ChecksVector : Chart → List ℤ → Option Refusal → Type 0
ChecksVector chart vector None = box.IsInBox chart vector
ChecksVector chart vector (Some refusal) = ((IsWhole chart vector → ⊥) × (refusal ≡ Fault kind.Form))
    ⊎ (IsWhole chart vector × (box.IsInBox chart vector → ⊥) × (refusal ≡ Fault kind.OutOfBox))

-- a line that is not made of numbers is none of the form
abbrev pub ChecksNumbers : Chart → Option (List Signed) → Option Refusal → Type 0
ChecksNumbers chart None check = check ≡ Some (Fault kind.Form)
ChecksNumbers chart (Some numbers) check = ChecksVector chart (vector_of numbers) check

-- a line of a word is made of numbers
abbrev pub IsWordLine : List Lexeme → List Signed → Type 0
IsWordLine ts numbers = AreNumbers ts 0 numbers

-- what refuses a line that is parsed as this
abbrev pub ChecksParsed : Chart → LineOf (List Signed) → Option Refusal → Type 0
ChecksParsed chart (Err error) check = check ≡ refusal_in (line_error_of error)
ChecksParsed chart (Ok None) check = check ≡ None
ChecksParsed chart (Ok (Some parsed)) check = ChecksNumbers chart parsed.form check

abbrev pub vectors_in : Option (List Signed) → List (List ℤ)
vectors_in None = []
vectors_in (Some numbers) = vector_of numbers ∷ []

-- the vector of a line, none where it is blank
abbrev pub vectors_of : LineOf (List Signed) → List (List ℤ)
vectors_of (Err error) = []
vectors_of (Ok None) = []
vectors_of (Ok (Some parsed)) = vectors_in parsed.form

-- the chart, and the vectors of the lines so far
pub record WordState : Type 0 where
  pub chart : Chart
  pub vectors : List (List ℤ)

abbrev pub next_vectors : WordState → LineOf (List Signed) → WordState
next_vectors s parsed = record s { vectors = s.vectors ++ vectors_of parsed }

-- what a line leads to, or why it is refused
abbrev pub TakesVector : WordState → List ℕ → Result WordState Refusal → Type 0
TakesVector = lines.StepBy (IsParsed (AreParsed IsWordLine)) (λ s parsed. ChecksParsed s.chart parsed) next_vectors

-- a word may end anywhere
abbrev pub nothing_missing : WordState → Option Refusal
nothing_missing s = None

abbrev pub begin : Chart → WordState
begin chart = record { chart = chart; vectors = [] }

-- the text is a word over the chart, and these are its vectors
abbrev pub ReadsWord : Chart → List ℕ → List (List ℤ) → Type 0
ReadsWord chart text vectors =
    lines.Reads TakesVector nothing_missing (λ s read. s.vectors ≡ read) (begin chart) text vectors

-- the text is no word over the chart: of the line with this number, from 1, the first check that meets a line refuses it
abbrev pub RefusesWord : Chart → List ℕ → ℕ → Refusal → Type 0
RefusesWord chart text line refusal = lines.Refuses TakesVector nothing_missing (begin chart) text line refusal

-- what a function answers that makes a vector of a line's numbers
abbrev pub GivesVector : Chart → Option (List Signed) → Result (List ℤ) Refusal → Type 0
GivesVector chart numbers (Ok vector) = ChecksNumbers chart numbers None × (vectors_in numbers ≡ vector ∷ [])
GivesVector chart numbers (Err refusal) = ChecksNumbers chart numbers (Some refusal)

-- for a text there is exactly one reading as a word over the chart, or exactly one refusal
abbrev pub IsDecidedWord : Chart → List ℕ → Type 0
IsDecidedWord chart text = lines.IsDecided (ReadsWord chart text) (RefusesWord chart text)
