use Rattle.strict_lines.proofs.Joining.{line_printed, lines_closed}
use Rattle.strict_lines.proofs.laws.lines_are_tokens.Goals as goal

pub returns : goal.returns
returns c = record { line = line_printed; lines = lines_closed }
