use Rattle.subject.proofs.Suites.{shape_answered, wp_shape_answered}
use Rattle.subject.proofs.shapes.suites_are_answered.Goals as goal

pub returns-clause-shape : goal.returns-clause-shape
returns-clause-shape g c = λ r n s covers. shape_answered (g.P.Plan.plan c.args.model.now) r n covers s

pub returns-clause-wp_shape : goal.returns-clause-wp_shape
returns-clause-wp_shape g c = λ r n s covers. wp_shape_answered (g.P.Plan.plan c.args.model.now) r n covers s
