use Rattle.std.proofs.Common.{◌∙◌}
use Rattle.line_forms.specs.Parsing.{AreParsed}
use Rattle.line_forms.proofs.Sound.{says_some}
use Rattle.line_forms.proofs.line_parser.LineParser.parse.Goals as goal

pub returns-in-Ok-parse_lexemes : goal.returns-in-Ok-parse_lexemes
returns-in-Ok-parse_lexemes g c = says_some (AreParsed g.F.LineForm.Is) c.args.line.now c.take.new.self.line c.in-Ok-parse_lexemes.parsed
    c.in-Ok.ensures.ok (λ e. c.if-len-eq0.false (c.len.ensures ∙ e)) c.in-Ok-parse_lexemes.ensures
