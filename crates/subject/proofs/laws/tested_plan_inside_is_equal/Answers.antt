use Rattle.subject.proofs.Method.{equal_inside}
use Rattle.subject.proofs.laws.tested_plan_inside_is_equal.Goals as goal

pub returns : goal.returns
returns g c = λ r n cover marks covers few inside. equal_inside (g.P.Plan.plan c.args.model.now) r n (g.Q.Plan.plan c.args.other.now) cover marks covers few inside
