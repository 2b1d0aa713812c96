use Rattle.subject.proofs.Method.{all_marks_are_own}
use Rattle.subject.proofs.laws.all_marks_are_own.Goals as goal

pub returns : goal.returns
returns g c = all_marks_are_own (g.P.Plan.plan c.args.model.now)
