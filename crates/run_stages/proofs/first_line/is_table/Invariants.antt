use Rattle.std.proofs.Common.{◌≡◌, length}
use Rattle.text_lines.specs.Lines.{lines_of}
use Rattle.run_stages.specs.FirstLine.{are_table_lines, is_table_text}
use Rattle.run_stages.proofs.first_line.is_table.Given as goal

abbrev pub invariant-lines : goal.invariant-lines
invariant-lines l = record { rest : are_table_lines (lines_of l.rest) ≡ is_table_text l.text }

abbrev pub decreases-lines : goal.decreases-lines
decreases-lines l = length l.rest
