use Rattle.std.proofs.Common.{[], Contains}
use Rattle.std.proofs.lemmas.List.Elements.{All-nil}
use Rattle.input_classes.specs.Partition.{witnesses}
use Rattle.subject.proofs.Lifting.{equal_from, lead_alike_from}
use Rattle.subject.proofs.laws.witnesses_show_all_words.Goals as goal

pub returns-clause-equal : goal.returns-clause-equal
returns-clause-equal g c = λ s r covers classes equal w h. equal_from s r (g.P.Plan.plan c.args.model.now) (g.Q.Plan.plan c.args.other.now) covers classes equal [] w (All-nil (Contains (witnesses r))) h

pub returns-clause-alike : goal.returns-clause-alike
returns-clause-alike g c = λ s r covers classes u w hu hw alike. lead_alike_from s r (g.P.Plan.plan c.args.model.now) (g.Q.Plan.plan c.args.other.now) covers classes u w hu hw alike
