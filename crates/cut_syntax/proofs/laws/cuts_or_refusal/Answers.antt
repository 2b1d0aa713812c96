use Rattle.std.proofs.Common.{◌≡◌, refl, sym, ◌∙◌}
use Rattle.text_lines.proofs.CallerLemmas.{decided}
use Rattle.line_forms.specs.CutForms.{IsCutsForm}
use Rattle.chart_syntax.proofs.CallerLemmas.{one_taken, some_taken}
use Rattle.cut_syntax.specs.Cuts.{TakesCut, begin, line_check, next, version_missing}
use Rattle.cut_syntax.proofs.laws.cuts_or_refusal.Goals as goal

pub returns : goal.returns
returns c = λ signature text. decided TakesCut version_missing (λ s cuts. s.cuts ≡ cuts) (λ s. Unit {0}) (begin signature) text
    (one_taken IsCutsForm (λ s parsed. line_check s.signature s.begun parsed) next c.one_parse.ensures)
    (some_taken IsCutsForm (λ s parsed. line_check s.signature s.begun parsed) next c.some_parse.ensures)
    tt (λ s t line k h. tt) (λ s a b p q. sym p ∙ q) (λ s k e none. none s.cuts refl)
