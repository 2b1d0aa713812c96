use Rattle.subject.proofs.Parting.{is_word, parts, unequal}
use Rattle.subject.proofs.laws.failure_shows_a_difference.Goals as goal

pub returns-clause-word : goal.returns-clause-word
returns-clause-word g c = λ s tests failure answered h. is_word s (g.P.Plan.plan c.args.model.now) (g.Q.Plan.plan c.args.other.now) tests answered failure h

pub returns-clause-parts : goal.returns-clause-parts
returns-clause-parts g c = λ s tests failure answered h. parts s (g.P.Plan.plan c.args.model.now) (g.Q.Plan.plan c.args.other.now) tests answered failure h

pub returns-clause-unequal : goal.returns-clause-unequal
returns-clause-unequal g c = λ s tests failure answered h. unequal s (g.P.Plan.plan c.args.model.now) (g.Q.Plan.plan c.args.other.now) tests answered failure h
