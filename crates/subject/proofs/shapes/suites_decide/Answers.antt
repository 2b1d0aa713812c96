use Rattle.subject.proofs.Suites.{shape_decides, wp_shape_decides}
use Rattle.subject.proofs.shapes.suites_decide.Goals as goal

pub returns-clause-shape : goal.returns-clause-shape
returns-clause-shape g c = λ r n s covers h inside. shape_decides (g.P.Plan.plan c.args.model.now) r n covers s (g.Q.Plan.plan c.args.other.now) inside h

pub returns-clause-wp_shape : goal.returns-clause-wp_shape
returns-clause-wp_shape g c = λ r n s covers h inside. wp_shape_decides (g.P.Plan.plan c.args.model.now) r n covers s (g.Q.Plan.plan c.args.other.now) inside h
