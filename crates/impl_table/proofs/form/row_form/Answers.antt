use Rattle.std.proofs.Common.{◌∙◌}
use Rattle.impl_table.proofs.Rows.{IsReadToGo, row_go, row_to, row_length}
use Rattle.impl_table.proofs.form.row_form.Goals as goal

pub returns-then-not-is_reserved-2 : goal.returns-then-not-is_reserved-2
returns-then-not-is_reserved-2 c =
    let w = c.in-Ok.ensures.found in
    let read : IsReadToGo c.args.line.now w.0 c.in-Ok-reply.found.0 c.in-Ok-reply.found.1 =
    record { at = c.in-Ok.found.1; guarded = w.1; whole = c.in-Ok-reply.ensures.found } in
    λ f is. c.if-not-is_reserved-2.ensures.found (row_go c.args.line.now w.0 c.in-Ok-reply.found.0 c.in-Ok-reply.found.1 f read is)

pub returns-in_default-name_at : goal.returns-in_default-name_at
returns-in_default-name_at c =
    let w = c.in-Ok.ensures.found in
    let read : IsReadToGo c.args.line.now w.0 c.in-Ok-reply.found.0 c.in-Ok-reply.found.1 =
    record { at = c.in-Ok.found.1; guarded = w.1; whole = c.in-Ok-reply.ensures.found } in
    λ f is. c.in_default-name_at.ensures.found f.to (row_to c.args.line.now w.0 c.in-Ok-reply.found.0 c.in-Ok-reply.found.1 f read is)

pub returns-then-len-end : goal.returns-then-len-end
returns-then-len-end c =
    let w = c.in-Ok.ensures.found in
    let read : IsReadToGo c.args.line.now w.0 c.in-Ok-reply.found.0 c.in-Ok-reply.found.1 =
    record { at = c.in-Ok.found.1; guarded = w.1; whole = c.in-Ok-reply.ensures.found } in
    λ f is. c.if-len-end.true (c.len.ensures ∙ row_length c.args.line.now w.0 c.in-Ok-reply.found.0 c.in-Ok-reply.found.1 f read is)
