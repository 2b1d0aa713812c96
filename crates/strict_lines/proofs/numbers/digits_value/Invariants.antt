use Rattle.std.proofs.Common.{drop}
use Rattle.strict_lines.specs.Numbers.{most}
use Rattle.strict_lines.proofs.Counting.{IsCounted}
use Rattle.strict_lines.proofs.numbers.digits_value.Given as goal

abbrev pub invariant-loop-digit : goal.invariant-loop-digit
invariant-loop-digit l = IsCounted l.digits (drop l.digit-index l.digits) l.value most
