use Rattle.subject.specs.Domain.{box}
use Rattle.chart_meaning.specs.Plan.{plan_of_chart}
use Rattle.suite_stages.proofs.Suiting.{unmade, made}
use Rattle.suite_stages.proofs.making.suite_over.Goals as goal

pub make_suite-requires-clause-ranges : goal.make_suite-requires-clause-ranges
make_suite-requires-clause-ranges c = c.requires.partition.1.ranges

pub make_suite-requires-clause-alike : goal.make_suite-requires-clause-alike
make_suite-requires-clause-alike c = c.members_act_alike.ensures c.args.plan.now c.requires.partition.0 c.args.partition.now (box (plan_of_chart c.args.plan.now) c.args.partition.now) c.requires.partition.1.atoms

pub returns-in-Ok : goal.returns-in-Ok
returns-in-Ok c = λ words shelf. made c.args.bound c.args.plan.now c.args.partition.now c.in-Ok.ensures.allowed c.in-Ok.ensures.shape

pub returns-in-Err : goal.returns-in-Err
returns-in-Err c = λ words shelf. rw c.stop_of_make.ensures (unmade c.args.bound c.args.plan.now c.args.partition.now c.in-Err.error c.in-Err.ensures.refused)
