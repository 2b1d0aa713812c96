use Rattle.subject.proofs.Covering.{cover_rank}
use Rattle.subject.proofs.laws.cover_is_rank.Goals as goal

pub returns : goal.returns
returns g c = cover_rank (g.P.Plan.plan c.args.plan.now)
