use Rattle.std.proofs.Common.{◌≡◌, take, count_by}
use Rattle.line_tokens.specs.Limits.{is_nesting}
use Rattle.line_tokens.proofs.check.nesting.Given as goal

abbrev pub invariant-loop-token : goal.invariant-loop-token
invariant-loop-token l = l.count ≡ count_by (is_nesting l.line) (take l.token-index l.tokens)
