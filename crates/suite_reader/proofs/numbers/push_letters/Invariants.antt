use Rattle.std.proofs.Common.{◌≡◌, ◌++◌, map, take}
use Rattle.suite_reading.specs.State.{letter_of}
use Rattle.suite_reader.proofs.numbers.push_letters.Given as goal

abbrev pub invariant-loop-number : goal.invariant-loop-number
invariant-loop-number l = l.letters.items ≡ l.fn.letters.items ++ map letter_of (take l.number-index l.numbers)
