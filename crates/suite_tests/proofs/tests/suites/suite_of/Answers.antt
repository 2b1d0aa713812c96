use Rattle.std.proofs.Common.{[]}
use Rattle.subject.specs.Domain.{box}
use Rattle.chart_meaning.specs.Plan.{plan_of_chart}
use Rattle.suite_tests.specs.Divided.{IsDivided}
use Rattle.suite_tests.proofs.tests.suites.suite_of.Goals as goal

pub make_suite-requires-clause-alike : goal.make_suite-requires-clause-alike
make_suite-requires-clause-alike g c =
    let divided : IsDivided c.in_ok-plan.plan c.in_ok-partition.partition = rw (c.chart.ensures) at c.in_ok-partition.ensures in
    c.members_act_alike.ensures c.in_ok-plan.plan [] c.in_ok-partition.partition (box (plan_of_chart c.in_ok-plan.plan) c.in_ok-partition.partition) divided.atoms
