use Rattle.input_classes.proofs.CallerLemmas.{word-member, words-within}
use Rattle.subject.proofs.Witnesses.{answers-witnesses}
use Rattle.subject.proofs.laws.witnesses_stand_in.Goals as goal

pub returns-clause-answers : goal.returns-clause-answers
returns-clause-answers g c = λ s r covers alike w h. answers-witnesses s r covers (g.P.Plan.plan c.args.plan.now) alike w h

pub returns-clause-members : goal.returns-clause-members
returns-clause-members g c = word-member

pub returns-clause-within : goal.returns-clause-within
returns-clause-within g c = words-within
