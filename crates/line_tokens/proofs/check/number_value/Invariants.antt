use Rattle.std.proofs.Common.{drop}
use Rattle.line_tokens.proofs.Numbers.{IsCounted}
use Rattle.line_tokens.proofs.check.number_value.Given as goal

abbrev pub invariant-loop-digit : goal.invariant-loop-digit
invariant-loop-digit l = IsCounted l.digits (drop l.digit-index l.digits) l.value l.most
