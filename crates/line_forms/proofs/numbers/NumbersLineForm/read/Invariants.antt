use Rattle.std.proofs.Common.{length, ◌-◌}
use Rattle.line_forms.proofs.Numerals.{AreNumbersTo}
use Rattle.line_forms.proofs.numbers.NumbersLineForm.read.Given as goal

abbrev pub invariant-numbers : goal.invariant-numbers
invariant-numbers l = AreNumbersTo l.line l.at l.numbers

abbrev pub decreases-numbers : goal.decreases-numbers
decreases-numbers l = length l.line - l.at
