use Rattle.subject.specs.Domain.{box}
use Rattle.abstract_machine.proofs.Lifted.{rank_over_all, rank_over_witnesses}
use Rattle.abstract_machine.proofs.laws.reduced_machine_has_the_rank.Goals as goal

pub returns-clause-over_witnesses : goal.returns-clause-over_witnesses
returns-clause-over_witnesses g c = λ r f a. rank_over_witnesses r (g.P.Plan.plan c.args.plan.now) f a

pub returns-clause-over_box : goal.returns-clause-over_box
returns-clause-over_box g c = λ r f covers alike a. rank_over_all r (g.P.Plan.plan c.args.plan.now) f a (box (g.P.Plan.plan c.args.plan.now) r) covers alike
