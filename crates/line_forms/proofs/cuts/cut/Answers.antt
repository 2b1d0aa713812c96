use Rattle.std.proofs.Common.{◌+◌, sym, ◌∙◌, ap}
use Rattle.line_forms.specs.Grammar.{test_size}
use Rattle.line_forms.proofs.CutLines.{cut_same}
use Rattle.line_forms.proofs.cuts.cut.Goals as goal

pub returns-then-len-end : goal.returns-then-len-end
returns-then-len-end c = λ x is.
    let long = c.in-Ok.ensures.found in
    let e = cut_same c.args.line.now c.in-Ok.found.1 c.in-Ok.found.0 x long is in
    c.if-len-end.true (c.len.ensures ∙ is.2 ∙ ap (λ t. 1 + test_size t) e ∙ sym long.ends)
