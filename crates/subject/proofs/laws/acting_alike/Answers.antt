use Rattle.std.proofs.Common.{refl, sym, ◌∙◌}
use Rattle.subject.proofs.Acting.{acts-over_witnesses, acts-after_words}
use Rattle.subject.proofs.laws.acting_alike.Goals as goal

pub returns-clause-itself : goal.returns-clause-itself
returns-clause-itself g c = λ s x u v p q. refl

pub returns-clause-turned : goal.returns-clause-turned
returns-clause-turned g c = λ s x y h u v p q. sym (h u v p q)

pub returns-clause-passed_on : goal.returns-clause-passed_on
returns-clause-passed_on g c = λ s x y z h k u v p q. h u v p q ∙ k u v p q

pub returns-clause-witnesses : goal.returns-clause-witnesses
returns-clause-witnesses g c = λ s r x y covers alike. acts-over_witnesses s r covers (g.P.Plan.plan c.args.plan.now) alike x y

pub returns-clause-after_words : goal.returns-clause-after_words
returns-clause-after_words g c = λ s. acts-after_words s (g.P.Plan.plan c.args.plan.now)
