use Rattle.std.proofs.Common.{◌+◌, ◌-◌, ◌≤◌, length, take}
use Rattle.test_world.specs.Sink.{Grows}
use Rattle.test_world.proofs.sink.put_all.Given as goal

abbrev pub invariant-loop-done : goal.invariant-loop-done
invariant-loop-done g l = record {
  within : l.done ≤ length l.bytes;
  taken : Grows (g.K.Sink.state l.fn.sink) (g.K.Sink.state l.sink) (take l.done l.bytes);
  later : (g.K.Sink.state l.fn.sink).faults ≤ (g.K.Sink.state l.sink).faults;
  few_puts : (g.K.Sink.state l.sink).puts ≤ (g.K.Sink.state l.fn.sink).puts + l.done;
}

abbrev pub decreases-loop-done : goal.decreases-loop-done
decreases-loop-done g l = length l.bytes - l.done
