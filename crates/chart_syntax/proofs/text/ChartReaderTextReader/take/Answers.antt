use Rattle.std.proofs.Common.{subst}
use Rattle.std.specs.Prelude.{Ok}
use Rattle.line_forms.specs.Forms.{IsStatement}
use Rattle.line_forms.specs.Parsing.{AreParsed, IsParsed}
use Rattle.chart_syntax.proofs.Placing.{line_partial}
use Rattle.chart_syntax.proofs.text.ChartReaderTextReader.take.Goals as goal

pub take-requires-clause-small : goal.take-requires-clause-small
take-requires-clause-small c = c.small_parse.ensures c.args.line.now c.in-Ok-Some.parsed
    (subst (λ parsed. IsParsed (AreParsed IsStatement) c.args.line.now (Ok parsed)) c.in-Ok-Some.field-0-is c.in-Ok-Some.ensures)

pub returns-clause-kept : goal.returns-clause-kept
returns-clause-kept c =
    let is = subst (λ parsed. IsParsed (AreParsed IsStatement) c.args.line.now (Ok parsed)) c.in-Ok-Some.field-0-is c.in-Ok-Some.ensures in
    line_partial c.args.self.now.reader c.take.new.reader c.in-Ok-Some.parsed c.args.line.now c.take.result c.requires is
    (c.small_parse.ensures c.args.line.now c.in-Ok-Some.parsed is) c.take.ensures
