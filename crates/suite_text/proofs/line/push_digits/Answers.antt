use Rattle.std.proofs.Common.{◌+◌, length, ap, arith, rules}
use Rattle.std.proofs.lemmas.Fmt.{decimal_digit}
use Rattle.suite_text.proofs.Lines.{one_digit}
use Rattle.suite_text.proofs.line.push_digits.Goals as goal

pub push-requires : goal.push-requires
push-requires c = omega (arith, c.requires, c.if-number-lt10.true, ap length (decimal_digit c.args.number (omega (arith, c.if-number-lt10.true))))

pub returns-then-number-lt10 : goal.returns-then-number-lt10
returns-then-number-lt10 c = one_digit c.args.number (omega (arith, c.if-number-lt10.true)) (search rules)
