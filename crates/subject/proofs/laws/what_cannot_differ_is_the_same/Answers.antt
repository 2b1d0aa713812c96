use Rattle.subject.specs.Meaning.{answer, after}
use Rattle.subject.proofs.Lifting.{stable}
use Rattle.subject.proofs.laws.what_cannot_differ_is_the_same.Goals as goal

pub returns-clause-alike : goal.returns-clause-alike
returns-clause-alike g c = λ s u w never v h. stable (after (g.P.Plan.plan c.args.plan.now) u v) (after (g.P.Plan.plan c.args.plan.now) w v) (λ differ. never (λ alike. differ (alike v h)))

pub returns-clause-equal : goal.returns-clause-equal
returns-clause-equal g c = λ s never w h. stable (answer (g.P.Plan.plan c.args.plan.now) w) (answer (g.Q.Plan.plan c.args.other.now) w) (λ differ. never (λ equal. differ (equal w h)))
