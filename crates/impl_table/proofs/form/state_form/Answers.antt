use Rattle.std.proofs.Common.{◌∙◌}
use Rattle.impl_table.proofs.Rows.{state_length}
use Rattle.impl_table.proofs.form.state_form.Goals as goal

pub returns-then-len-end : goal.returns-then-len-end
returns-then-len-end c = λ f is. c.if-len-end.true (c.len.ensures ∙ state_length c.args.line.now c.in-Ok.found.1 c.in-Ok.found.0 f c.in-Ok.ensures.found is)
