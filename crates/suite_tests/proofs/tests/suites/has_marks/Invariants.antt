use Rattle.suite_model.specs.Scratch.{IsMadeFor}
use Rattle.suite_tests.proofs.tests.suites.has_marks.Given as goal

abbrev pub invariant-loop-index : goal.invariant-loop-index
invariant-loop-index l = IsMadeFor l.suite l.scratch
