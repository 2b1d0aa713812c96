use Rattle.std.proofs.Common.{◌+◌, ◌∷◌, [], ap, length, arith, length-append}
use Rattle.suite_text.proofs.Lines.{number_length, length_pushed}
use Rattle.suite_text.proofs.line.set_natural.Goals as goal

pub push_digits-requires : goal.push_digits-requires
push_digits-requires c =
    let h = number_length c.args.number c.ranges.number.fits in
    omega (arith, h, c.requires.room, c.requires.word, ap length c.start.ensures.sets.line, c.start.ensures.sets.room, ap length c.push.ensures.line, length-append c.start.new.scratch.line (32 ∷ []), c.push.ensures.room)

pub push-requires-2 : goal.push-requires-2
push-requires-2 c =
    let h = number_length c.args.number c.ranges.number.fits in
    omega (arith, h, c.requires.room, c.requires.word, ap length c.start.ensures.sets.line, c.start.ensures.sets.room, ap length c.push.ensures.line, length-append c.start.new.scratch.line (32 ∷ []), c.push.ensures.room, length_pushed c.push_digits.ensures, c.push_digits.ensures.room)
