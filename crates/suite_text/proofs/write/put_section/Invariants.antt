use Rattle.std.proofs.Common.{◌≤◌, take}
use Rattle.test_world.specs.Sink.{Grows}
use Rattle.suite_model.specs.Scratch.{IsMadeFor}
use Rattle.suite_text.specs.inside.Parts.{rows, text_of}
use Rattle.suite_text.proofs.write.put_section.Given as goal

abbrev pub invariant-loop-index : goal.invariant-loop-index
invariant-loop-index g l = record {
  made : IsMadeFor l.suite l.scratch;
  taken : Grows (g.K.Sink.state l.fn.out) (g.K.Sink.state l.out) (text_of (take l.index (rows l.section l.suite)));
  later : (g.K.Sink.state l.fn.out).faults ≤ (g.K.Sink.state l.out).faults;
}
