use Rattle.std.proofs.Common.{◌≡◌, take}
use Rattle.suite_model.specs.Scratch.{IsMadeFor}
use Rattle.gen_stages.specs.Summary.{steps_in}
use Rattle.gen_stages.proofs.counting.steps_of.Given as goal

abbrev pub invariant-loop-test : goal.invariant-loop-test
invariant-loop-test l = record {
  made : IsMadeFor l.suite l.scratch;
  steps : l.steps ≡ steps_in (take l.test l.suite.tests);
}
