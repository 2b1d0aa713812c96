use Rattle.line_tokens.proofs.Reading.{IsReadTo}
use Rattle.line_tokens.proofs.check.read.Given as goal

abbrev pub invariant-spans : goal.invariant-spans
invariant-spans l = IsReadTo l.line l.spans l.span-index l.after_gives l.tokens.items
