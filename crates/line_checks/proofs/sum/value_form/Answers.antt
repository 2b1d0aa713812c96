use Rattle.std.proofs.Common.{sym, ◌∙◌, ap, subst, false, length}
use Rattle.chart_model.specs.Chart.{IsFormOver}
use Rattle.line_checks.specs.Sums.{collect, form_of}
use Rattle.line_checks.proofs.Moderate.{value_over}
use Rattle.line_checks.proofs.sum.value_form.Goals as goal

pub returns-clause-form : goal.returns-clause-form
returns-clause-form g c =
    let names = g.S.Scope.names c.args.scope.now in
    let terms = c.args.terms.now in
    let added = c.in-Ok.ensures.added ∙ ap (λ sum. collect names false sum terms) c.empty_sum-sum.ensures in
    subst (IsFormOver c.args.width (length names.memories)) (sym (c.form.ensures ∙ ap (form_of c.args.width) added))
    (value_over names c.args.width terms c.requires.few c.requires.short c.requires.small)
