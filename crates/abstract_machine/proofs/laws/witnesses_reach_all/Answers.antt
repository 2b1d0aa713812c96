use Rattle.abstract_machine.proofs.Lifted.{all_from_witnesses, more_where}
use Rattle.abstract_machine.proofs.laws.witnesses_reach_all.Goals as goal

pub returns-clause-states : goal.returns-clause-states
returns-clause-states g c = λ s r states covers alike. all_from_witnesses s r (g.P.Plan.plan c.args.plan.now) covers alike states

pub returns-clause-more : goal.returns-clause-more
returns-clause-more g c = λ s r n covers alike. more_where s r (g.P.Plan.plan c.args.plan.now) covers alike n
