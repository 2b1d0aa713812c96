use Rattle.std.proofs.Common.{◌+◌, ◌∷◌, [], ap, length, arith, length-append}
use Rattle.suite_text.proofs.Lines.{letter_length, length_pushed}
use Rattle.suite_text.proofs.line.push_letter.Goals as goal

pub push_digits-requires : goal.push_digits-requires
push_digits-requires c =
    let h = letter_length c.letter.result c.letter.type_inv in
    omega (arith, h, c.requires.room, ap length c.push.ensures.line, length-append c.args.scratch.now.line (32 ∷ []), c.push.ensures.room)

pub returns-clause-short : goal.returns-clause-short
returns-clause-short c =
    let h = letter_length c.letter.result c.letter.type_inv in
    omega (arith, h, ap length c.push.ensures.line, length-append c.args.scratch.now.line (32 ∷ []), length_pushed c.push_digits.ensures)
