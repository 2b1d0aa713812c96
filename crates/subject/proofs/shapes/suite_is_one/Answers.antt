use Rattle.subject.proofs.Suites.{one_shape, one_wp_shape}
use Rattle.subject.proofs.shapes.suite_is_one.Goals as goal

pub returns-clause-shape : goal.returns-clause-shape
returns-clause-shape g c = one_shape (g.P.Plan.plan c.args.model.now)

pub returns-clause-wp_shape : goal.returns-clause-wp_shape
returns-clause-wp_shape g c = one_wp_shape (g.P.Plan.plan c.args.model.now)
