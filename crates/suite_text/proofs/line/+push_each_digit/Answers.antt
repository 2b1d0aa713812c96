use Rattle.std.proofs.Common.{◌+◌, ◌/◌, ◌%◌, ◌∷◌, [], length, ap, arith, rules}
use Rattle.std.proofs.lemmas.Fmt.{decimal_digit}
use Rattle.suite_text.proofs.Lines.{shorter_by_one, one_digit, more_digits, length_pushed}
use Rattle.suite_text.proofs.line.+push_each_digit.Goals as goal

pub push-requires : goal.push-requires
push-requires t c = omega (arith, c.requires, c.if-number-lt10.true, ap length (decimal_digit c.args.number (omega (arith, c.if-number-lt10.true))))

pub returns-then-number-lt10 : goal.returns-then-number-lt10
returns-then-number-lt10 t c = one_digit c.args.number (omega (arith, c.if-number-lt10.true)) (search rules)

pub push_each_digit-requires : goal.push_each_digit-requires
push_each_digit-requires t c =
    let fits = c.ranges.number.fits in
    let ten = c.if-number-lt10.false in
    (omega (arith, c.decreases, ten), omega (arith, c.requires, shorter_by_one c.args.number (omega (arith, ten)) (omega (arith, fits))))

pub push-requires-2 : goal.push-requires-2
push-requires-2 t c =
    let fits = c.ranges.number.fits in
    let ten = c.if-number-lt10.false in
    omega (arith, c.requires, shorter_by_one c.args.number (omega (arith, ten)) (omega (arith, fits)), length_pushed c.push_each_digit.ensures, c.push_each_digit.ensures.room)

pub returns : goal.returns
returns t c =
    let fits = c.ranges.number.fits in
    let ten = c.if-number-lt10.false in
    more_digits c.args.number (omega (arith, ten)) (omega (arith, fits)) c.push_each_digit.ensures (search rules)
