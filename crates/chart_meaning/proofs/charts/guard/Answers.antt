use Rattle.std.proofs.Common.{[], arith}
use Rattle.std.specs.Option.{option_map_or}
use Rattle.chart_model.specs.Guard.{plain, comparisons_of}
use Rattle.chart_meaning.proofs.SmallCharts.{more_tests}
use Rattle.chart_meaning.proofs.charts.guard.Goals as goal

pub loop-test-preserved : goal.loop-test-preserved
loop-test-preserved g c =
    let before = option_map_or (λ guard. comparisons_of (plain guard)) c.loop-test.all [] in
    let more = more_tests before _ _ c.loop-test.test-index c.in_ok-and_test.ensures.tests c.loop-test.invariant.0
    c.form-form.ensures.over c.loop-test.invariant.1 in
    (more.0, more.1, omega (arith, c.in_ok-and_test.ensures.depth, c.loop-test.invariant.2))
