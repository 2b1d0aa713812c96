use Rattle.subject.proofs.Words.{answer-after, length-after, after-state}
use Rattle.subject.proofs.laws.replies_after.Goals as goal

pub returns-clause-joined : goal.returns-clause-joined
returns-clause-joined g c = answer-after (g.P.Plan.plan c.args.plan.now)

pub returns-clause-one_each : goal.returns-clause-one_each
returns-clause-one_each g c = length-after (g.P.Plan.plan c.args.plan.now)

pub returns-clause-state : goal.returns-clause-state
returns-clause-state g c = after-state (g.P.Plan.plan c.args.plan.now)
