use Rattle.std.proofs.Common.{subst, refl}
use Rattle.suite_model.specs.Suite.{IsSuite}
use Rattle.suite_model.proofs.Reading.{suite_holds}
use Rattle.suite_model.proofs.suite.suite_keeps_rules.Goals as goal

pub returns : goal.returns
returns c = subst IsSuite c.suite.view_is (suite_holds _ c.suite.inside.pool.words c.suite.inside.tests.items c.suite.inside.replies c.suite.invariant.0 c.suite.invariant.1 refl)
