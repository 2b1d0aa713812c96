use Rattle.std.proofs.Common.{◌≡◌, ◌≤◌, ◌-◌, length, map, drop}
use Rattle.suite_reading.specs.Checks.{is_in_box}
use Rattle.suite_reading.specs.State.{row_of}
use Rattle.suite_reader.proofs.numbers.is_in_box.Given as goal

abbrev pub invariant-loop-index : goal.invariant-loop-index
invariant-loop-index l = record {
  upto : l.index ≤ length l.inputs;
  rest : is_in_box (map row_of l.inputs) l.numbers ≡ is_in_box (map row_of (drop l.index l.inputs)) (drop l.index l.numbers);
}

abbrev pub decreases-loop-index : goal.decreases-loop-index
decreases-loop-index l = length l.inputs - l.index
