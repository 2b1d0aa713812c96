use Rattle.std.proofs.Common.{◌≤◌, take}
use Rattle.std.specs.List.{flat_map}
use Rattle.test_world.specs.Sink.{Grows}
use Rattle.suite_model.specs.Scratch.{IsMadeFor}
use Rattle.suite_text.specs.inside.Parts.{part_text, parts}
use Rattle.suite_text.proofs.write.write_suite.Given as goal

abbrev pub invariant-loop-part : goal.invariant-loop-part
invariant-loop-part g l = record {
  made : IsMadeFor l.suite l.scratch;
  taken : Grows (g.K.Sink.state l.fn.out) (g.K.Sink.state l.out) (flat_map (part_text l.suite) (take l.part-index parts));
  later : (g.K.Sink.state l.fn.out).faults ≤ (g.K.Sink.state l.out).faults;
}
