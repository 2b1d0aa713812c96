use Rattle.suite_model.specs.Scratch.{IsMadeFor}
use Rattle.suite_tests.proofs.tests.suites.has_tests.Given as goal

abbrev pub invariant-loop-test : goal.invariant-loop-test
invariant-loop-test l = IsMadeFor l.suite l.scratch
