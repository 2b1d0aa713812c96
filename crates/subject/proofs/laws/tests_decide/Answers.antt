use Rattle.subject.proofs.Method.{tests_decide}
use Rattle.subject.proofs.laws.tests_decide.Goals as goal

pub returns : goal.returns
returns g c = λ r n. tests_decide (g.P.Plan.plan c.args.model.now) r n (g.Q.Plan.plan c.args.other.now)
