use Rattle.subject.proofs.Ranks.{most_over_witnesses, most_from_witnesses, rank_over_witnesses, rank_from_witnesses}
use Rattle.subject.proofs.laws.states_over_witnesses.Goals as goal

pub returns-clause-over : goal.returns-clause-over
returns-clause-over g c = λ s r n covers alike. most_over_witnesses (g.P.Plan.plan c.args.plan.now) s r covers alike n

pub returns-clause-from : goal.returns-clause-from
returns-clause-from g c = λ s r n covers alike. most_from_witnesses (g.P.Plan.plan c.args.plan.now) s r covers alike n

pub returns-clause-rank_over : goal.returns-clause-rank_over
returns-clause-rank_over g c = λ s r n covers alike. rank_over_witnesses (g.P.Plan.plan c.args.plan.now) s r covers alike n

pub returns-clause-rank_from : goal.returns-clause-rank_from
returns-clause-rank_from g c = λ s r n covers alike. rank_from_witnesses (g.P.Plan.plan c.args.plan.now) s r covers alike n
