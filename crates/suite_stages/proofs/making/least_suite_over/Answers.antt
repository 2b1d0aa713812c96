use Rattle.subject.specs.Domain.{box}
use Rattle.chart_meaning.specs.Plan.{plan_of_chart}
use Rattle.suite_stages.proofs.Reaching.{reached_all}
use Rattle.suite_stages.proofs.Suiting.{least_unmade, least_made}
use Rattle.suite_stages.proofs.making.least_suite_over.Goals as goal

pub make_least_suite-requires-clause-ranges : goal.make_least_suite-requires-clause-ranges
make_least_suite-requires-clause-ranges c = c.requires.1.ranges

pub make_least_suite-requires-clause-alike : goal.make_least_suite-requires-clause-alike
make_least_suite-requires-clause-alike c = c.members_act_alike.ensures c.args.plan.now c.requires.0 c.args.partition.now (box (plan_of_chart c.args.plan.now) c.args.partition.now) c.requires.1.atoms

pub returns-in-Ok : goal.returns-in-Ok
returns-in-Ok c = λ words shelf. least_made c.args.plan.now c.args.partition.now c.in-Ok.ensures.allowed (record {
  shape = c.in-Ok.ensures.shape;
  configurations = reached_all c.args.plan.now c.requires.0 c.args.partition.now c.requires.1 (c.configurations_go_on.ensures.reached c.args.plan.now) c.in-Ok.least.configurations c.in-Ok.ensures.configurations;
})

pub returns-in-Err : goal.returns-in-Err
returns-in-Err c = λ words shelf. rw c.stop_of_make.ensures (least_unmade c.args.plan.now c.args.partition.now c.in-Err.error c.in-Err.ensures.refused)
