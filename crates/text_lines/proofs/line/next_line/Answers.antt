use Rattle.std.proofs.Common.{◌+◌, ◌<◌, ◌≤◌, ℕ, length, subst}
use Rattle.std.proofs.lemmas.List.{take_rest}
use Rattle.text_lines.proofs.LineLemmas.{lines_of-feed, lines_of-end}
use Rattle.text_lines.proofs.line.next_line.Goals as goal

pub returns-then-end-text-clause-line : goal.returns-then-end-text-clause-line
returns-then-end-text-clause-line c =
    let P : ℕ → Type 0 = λ n. n < length c.args.text.now in
    rw (take_rest c.args.text.now (c.line_length-end.result + 1), c.line_length-end.ensures)
    (lines_of-feed c.args.text.now (subst P c.line_length-end.ensures c.if-end-text.true))

pub returns-else-end-text-clause-line : goal.returns-else-end-text-clause-line
returns-else-end-text-clause-line c =
    let P : ℕ → Type 0 = λ n. length c.args.text.now ≤ n in
    lines_of-end c.args.text.now c.requires (subst P c.line_length-end.ensures c.if-end-text.false)
