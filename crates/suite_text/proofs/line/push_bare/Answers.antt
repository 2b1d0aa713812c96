use Rattle.std.proofs.Common.{◌+◌, ◌∷◌, [], length, ap, arith, length-append}
use Rattle.suite_text.proofs.Lines.{half_length, length_pushed}
use Rattle.suite_text.proofs.line.push_bare.Goals as goal

pub push_digits-requires : goal.push_digits-requires
push_digits-requires c =
    let h = half_length c.unsigned_abs-digits.result c.unsigned_abs-digits.ensures.bound in
    omega (arith, h, c.requires, ap length c.push.ensures.line, length-append c.args.scratch.now.line (45 ∷ []), c.push.ensures.room)

pub returns-then-number-lt0-clause-short : goal.returns-then-number-lt0-clause-short
returns-then-number-lt0-clause-short c =
    let h = half_length c.unsigned_abs-digits.result c.unsigned_abs-digits.ensures.bound in
    omega (arith, h, ap length c.push.ensures.line, length-append c.args.scratch.now.line (45 ∷ []), length_pushed c.push_digits.ensures)

pub push_digits-requires-2 : goal.push_digits-requires-2
push_digits-requires-2 c =
    let h = half_length c.unsigned_abs-digits.result c.unsigned_abs-digits.ensures.bound in
    omega (arith, h, c.requires)

pub returns-clause-short : goal.returns-clause-short
returns-clause-short c =
    let h = half_length c.unsigned_abs-digits.result c.unsigned_abs-digits.ensures.bound in
    omega (arith, h, length_pushed c.push_digits-2.ensures)
