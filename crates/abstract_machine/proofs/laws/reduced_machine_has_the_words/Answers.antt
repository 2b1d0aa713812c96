use Rattle.subject.specs.Domain.{box}
use Rattle.abstract_machine.proofs.Lifted.{cover_is, marks_are}
use Rattle.abstract_machine.proofs.laws.reduced_machine_has_the_words.Goals as goal

pub returns-clause-cover : goal.returns-clause-cover
returns-clause-cover g c = λ r f cover covers alike a. cover_is r (g.P.Plan.plan c.args.plan.now) f a (box (g.P.Plan.plan c.args.plan.now) r) covers alike cover

pub returns-clause-marks : goal.returns-clause-marks
returns-clause-marks g c = λ r f cover marks a. marks_are r (g.P.Plan.plan c.args.plan.now) f a cover marks
