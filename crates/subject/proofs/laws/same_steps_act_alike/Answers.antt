use Rattle.subject.proofs.Words.{same_steps-act}
use Rattle.subject.proofs.laws.same_steps_act_alike.Goals as goal

pub returns : goal.returns
returns g c = same_steps-act (g.P.Plan.plan c.args.plan.now)
