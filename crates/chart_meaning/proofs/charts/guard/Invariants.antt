use Rattle.std.proofs.Common.{◌+◌, ◌≤◌, [], length}
use Rattle.std.specs.List.{All}
use Rattle.std.specs.Option.{option_map_or}
use Rattle.lin_form.specs.declared.form.Comparison.{Comparison}
use Rattle.chart_model.specs.Chart.{IsFormOver}
use Rattle.chart_model.specs.Guard.{plain, comparisons_of, depth_of_guard}
use Rattle.chart_meaning.proofs.charts.guard.Given as goal

abbrev pub invariant-loop-test : goal.invariant-loop-test
invariant-loop-test g l = All (λ (c : Comparison). IsFormOver 2 1 c.form) (option_map_or (λ guard. comparisons_of (plain guard)) l.all [])
    × (length (option_map_or (λ guard. comparisons_of (plain guard)) l.all []) ≤ l.test-index)
    × (option_map_or (λ guard. depth_of_guard (plain guard)) l.all 0 ≤ l.test-index + 1)
