use Rattle.std.proofs.Common.{◌≤◌, get_or, take}
use Rattle.test_world.specs.Sink.{Grows}
use Rattle.suite_text.proofs.write.put_steps.Given as goal

abbrev pub invariant-loop-step : goal.invariant-loop-step
invariant-loop-step g l = record {
  upto : l.step ≤ l.count;
  taken : Grows (g.K.Sink.state l.fn.out) (g.K.Sink.state l.out) (take (get_or l.scratch.ends l.step 0) l.scratch.line);
  later : (g.K.Sink.state l.fn.out).faults ≤ (g.K.Sink.state l.out).faults;
}
