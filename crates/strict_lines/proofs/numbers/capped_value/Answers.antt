use Rattle.std.proofs.Common.{sym}
use Rattle.strict_lines.specs.Numbers.{value}
use Rattle.strict_lines.proofs.Back.{capped_over, capped_is}
use Rattle.strict_lines.proofs.numbers.capped_value.Goals as goal

pub returns-in-Some-clause-value : goal.returns-in-Some-clause-value
returns-in-Some-clause-value c = capped_is c.in-Some.value (value c.args.digits.now) c.in-Some.ensures.0 c.in-Some.ensures.1

pub returns-in-None-clause-value : goal.returns-in-None-clause-value
returns-in-None-clause-value c = sym (capped_over (value c.args.digits.now) c.in-None.ensures)
