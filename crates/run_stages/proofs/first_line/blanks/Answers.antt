use Rattle.std.proofs.lemmas.List.Sums.{prefix_len-le-length}
use Rattle.line_tokens.specs.Spelling.{is_blank}
use Rattle.run_stages.proofs.first_line.blanks.Goals as goal

pub returns-clause-within : goal.returns-clause-within
returns-clause-within c = rw c.leading_blanks.ensures (prefix_len-le-length is_blank c.args.bytes.now)
