use Rattle.std.proofs.Common.{◌≡◌, ◌<◌}
use Rattle.suite_reading.specs.State.{AreRuled}
use Rattle.running_tests.proofs.tests.enter.Given as goal

abbrev pub invariant-loop-step : goal.invariant-loop-step
invariant-loop-step g l = record {
  tests : l.store.tests ≡ l.fn.store.tests;
  spare : 0 < l.store.spare;
  ruled : AreRuled 3 1 l.store.now;
}
