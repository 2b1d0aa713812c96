use Rattle.line_tokens.proofs.Reading.{each_span, inside_span}
use Rattle.line_tokens.proofs.check.read.Goals as goal

pub token-requires : goal.token-requires
token-requires c = each_span c.args.line.now 0 c.args.spans.now c.spans.span-index record { from = 0; to = 0 } c.requires c.spans-test.true

pub stands_after_gives-after_gives-requires : goal.stands_after_gives-after_gives-requires
stands_after_gives-after_gives-requires c = inside_span c.args.line.now _ _
    (each_span c.args.line.now 0 c.args.spans.now c.spans.span-index record { from = 0; to = 0 } c.requires c.spans-test.true)
    c.in-Ok.ensures.0
