use Rattle.subject.specs.FiniteMap.{plan_of_map}
use Rattle.subject.proofs.Suites.{shape_decides, wp_shape_decides}
use Rattle.subject.proofs.shapes.suites_are_complete.Goals as goal

pub returns-clause-shape : goal.returns-clause-shape
returns-clause-shape g c = λ r n s covers h f inside. shape_decides (g.P.Plan.plan c.args.model.now) r n covers s (plan_of_map f) inside h

pub returns-clause-wp_shape : goal.returns-clause-wp_shape
returns-clause-wp_shape g c = λ r n s covers h f inside. wp_shape_decides (g.P.Plan.plan c.args.model.now) r n covers s (plan_of_map f) inside h
