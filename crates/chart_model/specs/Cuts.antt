-- What every list of cuts keeps.
use Rattle.std.specs.Prelude.{List}
use Rattle.std.specs.List.{All}
use Rattle.lin_form.specs.declared.form.Comparison.{Comparison}
use Rattle.lin_form.specs.Form.{IsModerate}
use Rattle.lin_form.specs.Inequality.{AreZero}

-- a cut is a moderate comparison over the inputs alone
pub record IsCut (cut : Comparison) : Type 0 where
  pub moderate : IsModerate cut.form
  pub no_memory : AreZero cut.form.memory

abbrev pub AreCuts : List Comparison → Type 0
AreCuts cuts = All IsCut cuts
