use Rattle.std.proofs.Common.{refl, subst}
use Rattle.subject.specs.Suite.{SuiteParts}
use Rattle.suite_model.specs.Pooled.{IsPooled}
use Rattle.suite_model.proofs.suite.Suite.pooled.Goals as goal

pub returns-clause-suite : goal.returns-clause-suite
returns-clause-suite c =
    let s = c.self.inside in
    subst (λ (parts : SuiteParts). IsPooled parts s.pool.words s.replies) c.self.view_is (record { ids = s.tests.items; makes = c.self.invariant.1; tests = refl })
