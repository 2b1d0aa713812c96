use Rattle.std.proofs.Common.{sym}
use Rattle.line_tokens.proofs.Words.{name_longest, number_longest, joined_longest, symbol_longest, none_longest}
use Rattle.line_tokens.proofs.word.token_length.Goals as goal

pub returns-then-begins_with_name : goal.returns-then-begins_with_name
returns-then-begins_with_name c = record { found = rw c.name_bytes.ensures (name_longest _ (sym c.if-begins_with_name.ensures)) }

pub returns-then-begins_with_number : goal.returns-then-begins_with_number
returns-then-begins_with_number c = record { found = rw c.digits.ensures (number_longest _ (sym c.if-begins_with_number.ensures)) }

pub returns-then-is_joined_symbol : goal.returns-then-is_joined_symbol
returns-then-is_joined_symbol c = record {
  found = joined_longest _ (sym c.if-begins_with_name.ensures) (sym c.if-begins_with_number.ensures)
      (sym c.if-is_joined_symbol.ensures);
}

pub returns-then-begins_symbol : goal.returns-then-begins_symbol
returns-then-begins_symbol c = record {
  found = symbol_longest _ (sym c.if-begins_with_name.ensures) (sym c.if-begins_with_number.ensures)
      (sym c.if-is_joined_symbol.ensures) (sym c.if-begins_symbol.ensures);
}

pub returns : goal.returns
returns c = record {
  found = none_longest _ (sym c.if-begins_with_name.ensures) (sym c.if-begins_with_number.ensures)
      (sym c.if-is_joined_symbol.ensures) (sym c.if-begins_symbol.ensures);
}
