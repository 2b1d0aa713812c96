use Rattle.std.proofs.Common.{◌≡◌, length}
use Rattle.std.specs.List.{All}
use Rattle.chart_model.specs.Cuts.{IsCut}
use Rattle.guard_atoms.proofs.tests.charts.cuts.Given as goal

abbrev pub invariant-loop-row : goal.invariant-loop-row
invariant-loop-row g l = All IsCut l.list.items × All (λ cut. length cut.form.inputs ≡ 3) l.list.items
