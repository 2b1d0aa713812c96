use Rattle.std.proofs.Common.{◌∙◌, map, ap, length, ◌-◌, take, drop, sym}
use Rattle.strict_lines.specs.Pieces.{said}
use Rattle.suite_reader.specs.inside.Words.{item_by}
use Rattle.suite_reader.proofs.Worded.{word_first, word_by}
use Rattle.suite_reader.proofs.line.line_of.Goals as goal

pub returns-in_default : goal.returns-in_default
returns-in_default c = record {
  item = word_first c.args.pieces.now _ c.in-Word.word c.in-len1-up.len_at_least c.in-Word.is
      ∙ word_by c.in-Word.word.now (map said (take (length c.args.pieces.now - 1) (drop 1 c.args.pieces.now)))
      ∙ ap (λ k. item_by k c.in-Word.word.now (map said (take (length c.args.pieces.now - 1) (drop 1 c.args.pieces.now)))) (sym c.kind_of.ensures)
      ∙ c.short_line.ensures.item c.in-Word.word.now c.args.numbers.now.items;
  cut = c.short_line.ensures.cut c.args.numbers.now.items;
}
