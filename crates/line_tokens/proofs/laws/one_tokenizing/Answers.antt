use Rattle.line_tokens.proofs.Uniqueness.{one_tokens}
use Rattle.line_tokens.proofs.laws.one_tokenizing.Goals as goal

pub returns : goal.returns
returns c = one_tokens
