use Rattle.std.proofs.Common.{◌≡◌, map, take}
use Rattle.chart_syntax.proofs.chart.names.Given as goal

abbrev pub invariant-names : goal.invariant-names
invariant-names l = l.names.items ≡ map (λ form. form.name) (take l.form-index l.forms)
