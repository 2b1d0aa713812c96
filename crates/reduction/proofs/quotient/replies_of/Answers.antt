use Rattle.std.proofs.Common.{◌∙◌}
use Rattle.reduction.proofs.Picking.{reply_more}
use Rattle.reduction.proofs.quotient.replies_of.Goals as goal

pub loop-number-preserved : goal.loop-number-preserved
loop-number-preserved c =
    c.in_ok-push.ensures.items ∙ reply_more c.args.fsm.now.replies c.loop-number.replies.items c.loop-number.number
    c.reply.result.now c.loop-number.invariant c.reply.ensures
