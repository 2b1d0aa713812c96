use Rattle.std.proofs.Common.{◌≡◌, map, take}
use Rattle.line_forms.specs.Forms.{value_of}
use Rattle.chart_syntax.proofs.chart.initial.Given as goal

abbrev pub invariant-values : goal.invariant-values
invariant-values l = l.values.items ≡ map (λ form. value_of form.value) (take l.form-index l.forms)
