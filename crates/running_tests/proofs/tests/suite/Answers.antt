use Rattle.std.proofs.Common.{◌≡◌, ℕ, length, sym, subst, ap, rules}
use Rattle.std.specs.List.{All}
use Rattle.suite_reading.specs.State.{AreRuled}
use Rattle.running_tests.proofs.tests.suite.Goals as goal

pub into_suite-requires-clause-tests : goal.into_suite-requires-clause-tests
into_suite-requires-clause-tests g c =
    let classes : length c.in_ok-classes.classes.items ≡ 3 = search rules in
    let outputs : length c.in_ok-signature.signature.outputs ≡ 1 = ap length c.in_ok-signature.ensures.outputs in
    subst (λ (n : ℕ). All (AreRuled n (length c.in_ok-signature.signature.outputs)) c.loop-letters.store.tests) (sym classes)
    (subst (λ (n : ℕ). All (AreRuled 3 n) c.loop-letters.store.tests) (sym outputs) c.loop-letters.invariant.tests)
