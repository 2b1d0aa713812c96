use Rattle.std.proofs.Common.{◌≡◌, length, ap, ◌∙◌, sym, arith}
use Rattle.reduction.proofs.Picking.{pick_new, pick_none}
use Rattle.reduction.proofs.quotient.representatives_of.Goals as goal
use Rattle.reduction.proofs.quotient.representatives_of.Goals.{then-block-len+in_ok-push, else-block-len}

pub loop-state-preserved : goal.loop-state-preserved
loop-state-preserved c =
    let size : c.len.result ≡ length c.loop-state.found.items = omega (arith, c.len.ensures, c.loop-state.found.ok.0) in
    elim c.if-block-len.branch [
      | then-block-len+in_ok-push w ↦ pick_new c.args.blocks.now c.requires c.loop-state.found.items
          c.loop-state.state c.loop-state.invariant c.loop-state-test.true
          (w.if-block-len.true ∙ size) c.if-block-len.found.items (ap (λ v. v.items) w.found-is ∙ w.in_ok-push.ensures.items)
      | else-block-len w ↦ pick_none c.args.blocks.now c.requires c.loop-state.found.items c.loop-state.state c.loop-state.invariant c.loop-state-test.true
          (λ e. w.if-block-len.false (e ∙ sym size)) c.if-block-len.found.items (ap (λ v. v.items) w.found-is)
    ]
