use Rattle.std.proofs.Common.{◌≡◌}
use Rattle.std.specs.List.{All}
use Rattle.suite_reading.specs.State.{AreRuled, no_test}
use Rattle.running_tests.proofs.tests.suite.Given as goal

abbrev pub invariant-loop-letters : goal.invariant-loop-letters
invariant-loop-letters g l = record {
  tests : All (AreRuled 3 1) l.store.tests;
  now : l.store.now ≡ no_test;
}
