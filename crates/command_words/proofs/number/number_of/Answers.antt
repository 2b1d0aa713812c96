use Rattle.std.proofs.Common.{arith, sym, ap, ◌∙◌}
use Rattle.std.specs.Char.{is_ascii_digit}
use Rattle.std.specs.List.{list_all}
use Rattle.command_words.proofs.Digits.{no_number}
use Rattle.command_words.proofs.number.number_of.Goals as goal

pub returns-in-Err : goal.returns-in-Err
returns-in-Err c =
    let some = c.if-word-eq0.false in
    no_number c.args.word.now c.in-Err.field-0 c.in-Err.ensures.value.0 (omega (arith, some)) (ap (list_all is_ascii_digit) (sym c.as_bytes.ensures.value) ∙ sym c.if-not-are_digits.ensures)
