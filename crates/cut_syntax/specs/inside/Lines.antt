-- What is kept from line to line, what a line adds, and what a check tells.
use Rattle.std.specs.Prelude.{◌≡◌, length, Option, Some, None, Result, Ok, Err}
use Rattle.lin_form.specs.declared.form.Comparison.{Comparison}
use Rattle.lin_form.specs.declared.signature.Signature.{Signature}
use Rattle.chart_model.specs.Cuts.{IsCut, AreCuts}
use Rattle.chart_syntax.specs.declared.error.Refusal.{Refusal}
use Rattle.cut_syntax.specs.Cuts.{CutsState, AreOver}

-- the comparison, where there is one, is a cut over the signature
abbrev pub IsOver : Signature → Option Comparison → Type 0
IsOver signature None = Unit {0}
IsOver signature (Some cut) = IsCut cut × (length cut.form.inputs ≡ length signature.inputs)

-- the cuts read so far are cuts over the signature
pub record AreRead (s : CutsState) : Type 0 where
  pub cuts : AreCuts s.cuts
  pub over : AreOver s.signature s.cuts

-- what a function answers that checks what a line adds, where it adds this
abbrev pub Adds : Option Refusal → Option Comparison → Result (Option Comparison) Refusal → Type 0
Adds check added (Ok cut) = (check ≡ None) × (cut ≡ added)
Adds check added (Err refusal) = check ≡ Some refusal
