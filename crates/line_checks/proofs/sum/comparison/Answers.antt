use Rattle.std.proofs.Common.{sym, ◌∙◌, ap, subst, true, false, length}
use Rattle.chart_model.specs.Chart.{IsFormOver}
use Rattle.line_checks.specs.Sums.{collect, form_of}
use Rattle.line_checks.proofs.Moderate.{comparison_over}
use Rattle.line_checks.proofs.sum.comparison.Goals as goal

pub returns-clause-form : goal.returns-clause-form
returns-clause-form g c =
    let names = g.S.Scope.names c.args.scope.now in
    let test = c.args.test.now in
    let left = c.in-Ok.ensures.added ∙ (λ j. collect names false (c.empty_sum-sum.ensures j) (c.as_slice.ensures j)) in
    let both = c.in-Ok-collect.ensures.added ∙ (λ j. collect names true (left j) (c.as_slice-2.ensures j)) in
    subst (IsFormOver c.args.width (length names.memories)) (sym (c.form.ensures ∙ ap (form_of c.args.width) both))
    (comparison_over names c.args.width test c.requires.few c.requires.small)
