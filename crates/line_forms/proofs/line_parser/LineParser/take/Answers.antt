use Rattle.line_forms.proofs.Sound.{sound_line, is_lexed}
use Rattle.line_forms.proofs.line_parser.LineParser.take.Goals as goal

pub fill-requires : goal.fill-requires
fill-requires c = sound_line c.args.line.now c.content.result.now c.read.new.self c.tokens.result.now c.in-Ok.ensures.ok c.content.ensures c.tokens.ensures

pub returns-in-Ok-fill-clause-ok : goal.returns-in-Ok-fill-clause-ok
returns-in-Ok-fill-clause-ok c = is_lexed c.args.line.now c.content.result.now c.read.new.self c.tokens.result.now c.fill.new.self
    c.in-Ok.ensures.ok c.content.ensures c.tokens.ensures c.in-Ok-fill.ensures
