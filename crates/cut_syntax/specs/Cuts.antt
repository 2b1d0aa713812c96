-- What a text reads as, where it is a list of cuts over a signature, and what refuses it, where it is none.
use Rattle.std.specs.Prelude.{◌≡◌, ℕ, Bool, true, false, if◌then◌else◌, ◌==◌, List, [], ◌∷◌, ◌++◌, length}
use Rattle.std.specs.Prelude.{Option, Some, None, Result}
use Rattle.std.specs.List.{All}
use Rattle.lin_form.specs.declared.form.Comparison.{Comparison}
use Rattle.lin_form.specs.declared.signature.Signature.{Signature}
use Rattle.text_lines.specs.Reading.{Reads, Refuses}
use Rattle.line_forms.specs.declared.keyword.Keyword.{Keyword}
use Rattle.line_forms.specs.declared.keyword.Keyword.TheVariants as keyword
use Rattle.line_forms.specs.declared.parsed.ParsedLine.{ParsedLine}
use Rattle.line_forms.specs.declared.cuts.CutsForm.{CutsForm}
use Rattle.line_forms.specs.declared.cuts.CutsForm.TheVariants as form
use Rattle.line_forms.specs.CutForms.{IsCutsForm}
use Rattle.line_checks.specs.declared.scope.NameFault.{NameFault}
use Rattle.line_checks.specs.Names.{input_scope}
use Rattle.line_checks.specs.Sums.{test_check, comparison_of}
use Rattle.chart_syntax.specs.declared.error.Kind.TheVariants as kind
use Rattle.chart_syntax.specs.declared.error.Refusal.{Refusal}
use Rattle.chart_syntax.specs.declared.error.Refusal.TheVariants.{Fault}
use Rattle.chart_syntax.specs.Reading.{TakesBy}

-- the signature, whether the first line was read, and the cuts so far
pub record CutsState : Type 0 where
  pub signature : Signature
  pub begun : Bool
  pub cuts : List Comparison

-- the first line is `cuts 1`
abbrev pub first_check : Option CutsForm → Option Refusal
first_check (Some (form.Version n)) = if n == 1 then None else Some (Fault kind.Version)
first_check other = Some (Fault kind.Version)

-- a name that is no input is unknown
abbrev pub unknown : Option NameFault → Option Refusal
unknown None = None
unknown (Some fault) = Some (Fault kind.Unknown)

-- a line that begins with `cut` has its form, and then its names are inputs
abbrev pub cut_check : Signature → Option CutsForm → Option Refusal
cut_check signature (Some (form.Cut t)) = unknown (test_check (input_scope signature) t)
cut_check signature other = Some (Fault kind.Form)

-- every later line begins with `cut`
abbrev pub later_check : Signature → Option Keyword → Option CutsForm → Option Refusal
later_check signature (Some keyword.Cut) said = cut_check signature said
later_check signature other said = Some (Fault kind.NoSuchLine)

abbrev pub line_check : Signature → Bool → ParsedLine CutsForm → Option Refusal
line_check signature true parsed = later_check signature parsed.head parsed.form
line_check signature false parsed = first_check parsed.form

-- the comparison of a cut over the inputs
abbrev pub cut_of : Signature → Option CutsForm → Option Comparison
cut_of signature (Some (form.Cut t)) = Some (comparison_of (input_scope signature) (length signature.inputs) t)
cut_of signature other = None

abbrev pub listed : Option Comparison → List Comparison
listed None = []
listed (Some comparison) = comparison ∷ []

-- what is read after a line
abbrev pub next : CutsState → ParsedLine CutsForm → CutsState
next s parsed = record s { begun = true; cuts = s.cuts ++ listed (cut_of s.signature parsed.form) }

-- what a line leads to, or why it is refused
abbrev pub TakesCut : CutsState → List ℕ → Result CutsState Refusal → Type 0
TakesCut = TakesBy IsCutsForm (λ s parsed. line_check s.signature s.begun parsed) next

-- a text without a line that says something lacks its first
abbrev pub version_missing : CutsState → Option Refusal
version_missing s = if s.begun then None else Some (Fault kind.Version)

abbrev pub begin : Signature → CutsState
begin signature = record { signature = signature; begun = false; cuts = [] }

-- the text is a list of cuts over the signature, and these are its cuts in order
abbrev pub ReadsCuts : Signature → List ℕ → List Comparison → Type 0
ReadsCuts signature text cuts = Reads TakesCut version_missing (λ s read. s.cuts ≡ read) (begin signature) text cuts

-- the text is no list of cuts: of the line with this number, from 1, the first check that meets a line refuses it
abbrev pub RefusesCuts : Signature → List ℕ → ℕ → Refusal → Type 0
RefusesCuts signature text line refusal = Refuses TakesCut version_missing (begin signature) text line refusal

-- each form has one coefficient per input
abbrev pub AreOver : Signature → List Comparison → Type 0
AreOver signature cuts = All (λ cut. length cut.form.inputs ≡ length signature.inputs) cuts
