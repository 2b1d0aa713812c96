use Rattle.subject.specs.FiniteMap.{plan_of_map}
use Rattle.subject.proofs.Method.{tests_decide}
use Rattle.subject.proofs.laws.tests_are_complete.Goals as goal

pub returns : goal.returns
returns g c = λ r n tests h f. tests_decide (g.P.Plan.plan c.args.model.now) r n (plan_of_map f) tests h
