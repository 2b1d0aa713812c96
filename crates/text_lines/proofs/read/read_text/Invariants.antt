use Rattle.std.proofs.Common.{length}
use Rattle.text_lines.proofs.Lines.{IsReadTo}
use Rattle.text_lines.proofs.read.read_text.Given as goal

abbrev pub invariant-lines : goal.invariant-lines
invariant-lines g l =
    let state = g.R.TextReader.state in
    IsReadTo g.R.TextReader.Step g.R.TextReader.end g.R.TextReader.Kept (state l.fn.reader) l.fn.text l.rest (state l.reader) l.number

abbrev pub decreases-lines : goal.decreases-lines
decreases-lines g l = length l.rest
