use Rattle.std.proofs.Common.{◌≡◌, ◌≤◌, length, take, slice_get, Some}
use Rattle.std.specs.List.{flat_map}
use Rattle.test_world.specs.Sink.{Grows}
use Rattle.subject.specs.Suite.{Test, in_vectors}
use Rattle.suite_model.specs.Scratch.{IsMadeFor}
use Rattle.test_subject.specs.Subject.{in_line}
use Rattle.verdict_report.proofs.write.put_inputs.Given as goal

abbrev pub invariant-loop-step : goal.invariant-loop-step
invariant-loop-step g l = record {
  made : IsMadeFor l.suite l.scratch;
  letters : (t : Test) → slice_get l.suite.tests l.fn.test ≡ Some t → take (length t.letters) l.scratch.letters ≡ t.letters;
  taken : (t : Test) → slice_get l.suite.tests l.fn.test ≡ Some t → Grows (g.K.Sink.state l.fn.out) (g.K.Sink.state l.out) (flat_map in_line (take l.step (take l.fn.steps (in_vectors l.suite.classes t.letters))));
  later : (g.K.Sink.state l.fn.out).faults ≤ (g.K.Sink.state l.out).faults;
}
