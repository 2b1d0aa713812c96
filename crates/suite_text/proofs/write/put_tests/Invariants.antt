use Rattle.std.proofs.Common.{◌≤◌, take}
use Rattle.std.specs.List.{flat_map}
use Rattle.test_world.specs.Sink.{Grows}
use Rattle.suite_model.specs.Scratch.{IsMadeFor}
use Rattle.suite_model.specs.Text.{test_lines}
use Rattle.suite_text.specs.inside.Parts.{text_of}
use Rattle.suite_text.specs.inside.Steps.{HoldsSteps}
use Rattle.suite_text.proofs.write.put_tests.Given as goal

abbrev pub invariant-loop-test : goal.invariant-loop-test
invariant-loop-test g l = record {
  made : IsMadeFor l.suite l.scratch;
  holds : HoldsSteps l.suite l.before l.scratch;
  taken : Grows (g.K.Sink.state l.fn.out) (g.K.Sink.state l.out) (flat_map (λ t. text_of (test_lines l.suite.classes t)) (take l.test l.suite.tests));
  later : (g.K.Sink.state l.fn.out).faults ≤ (g.K.Sink.state l.out).faults;
}
