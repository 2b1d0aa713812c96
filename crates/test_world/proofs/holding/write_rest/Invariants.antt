use Rattle.std.proofs.Common.{◌≡◌, ◌-◌, ◌≤◌, length, drop}
use Rattle.std.specs.Io.KnownBytes.{Keeps, append_known}
use Rattle.test_world.proofs.holding.write_rest.Given as goal

abbrev pub invariant-loop-start : goal.invariant-loop-start
invariant-loop-start g l = record {
  within : l.start ≤ length l.bytes;
  kept : Keeps (append_known (g.W.Write.contents l.fn.writer) (drop l.fn.start l.bytes)) (append_known (g.W.Write.contents l.writer) (drop l.start l.bytes));
  same : l.faults ≡ l.fn.faults;
}

abbrev pub decreases-loop-start : goal.decreases-loop-start
decreases-loop-start g l = length l.bytes - l.start
