use Rattle.std.proofs.Common.{subst, ◌∙◌}
use Rattle.chart_syntax.specs.Reading.{Reads}
use Rattle.chart_gen.proofs.generating.generate.Goals as goal

pub returns-in-Ok : goal.returns-in-Ok
returns-in-Ok c =
    subst (λ lines. Reads lines c.in-Ok.chart) (c.as_slice.ensures.value ∙ c.in_ok-text.ensures) c.in-Ok.ensures.read
