use Rattle.subject.proofs.Lifting.{by_classes, lead_alike_from}
use Rattle.subject.proofs.Words.{alike-goes_on}
use Rattle.input_classes.proofs.CallerLemmas.{words-within}
use Rattle.subject.proofs.laws.leading_alike.Goals as goal

pub returns-clause-goes_on : goal.returns-clause-goes_on
returns-clause-goes_on g c = alike-goes_on (g.P.Plan.plan c.args.plan.now)

pub returns-clause-over_witnesses : goal.returns-clause-over_witnesses
returns-clause-over_witnesses g c = λ s r u w covers alike hu hw.
    let m = g.P.Plan.plan c.args.plan.now in (
      λ lead v k. lead v (words-within s r covers v k),
      lead_alike_from s r m m covers (by_classes s r m covers alike) u w hu hw,
    )
