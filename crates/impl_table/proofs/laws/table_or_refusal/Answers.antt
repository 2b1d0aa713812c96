use Rattle.text_lines.proofs.CallerLemmas.{decided}
use Rattle.chart_syntax.proofs.CallerLemmas.{one_taken, some_taken}
use Rattle.impl_table.specs.Forms.{IsTableForm}
use Rattle.impl_table.specs.Reading.{IsContent, TakesRow, end_check, line_check, some_next, start}
use Rattle.impl_table.specs.inside.Lines.{IsPartial}
use Rattle.impl_table.proofs.Keeping.{keeps, nothing_read}
use Rattle.impl_table.proofs.Whole.{exists, same_table}
use Rattle.impl_table.proofs.laws.table_or_refusal.Goals as goal

pub returns : goal.returns
returns c = λ text.
    decided TakesRow end_check IsContent IsPartial start text
    (one_taken IsTableForm line_check (λ s parsed. some_next s parsed.form) c.one_parse.ensures)
    (some_taken IsTableForm line_check (λ s parsed. some_next s parsed.form) c.some_parse.ensures)
    nothing_read (keeps c.small_parse.ensures c.guards_fit.ensures) same_table exists
