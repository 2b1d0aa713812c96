use Rattle.std.proofs.Common.{◌∙◌, ap}
use Rattle.chart_meaning.specs.Step.{next_of, reply_of}
use Rattle.command_answers.proofs.Printing.{printed_more, printed_part}
use Rattle.command_answers.proofs.play.print_replies.Goals as goal

pub returns-in-Err : goal.returns-in-Err
returns-in-Err g c = printed_part c.args.plan.now c.args.word.now c.word.vector-index c.vector-item.result c.word.config c.step-step.result.reply _ _ _
    c.word.invariant c.word-test.true
    (c.step-step.ensures.reply ∙ ap (reply_of c.args.plan.now c.word.config) c.vector-item.is)
    (rw c.as_slice.ensures.value at (rw (c.bytes.ensures ∙ c.set_numbers.ensures) at c.in-Err.ensures.put))

pub word-preserved : goal.word-preserved
word-preserved g c =
    printed_more c.args.plan.now c.args.word.now c.word.vector-index c.vector-item.result c.word.config c.step-step.result.state c.step-step.result.reply _ _ _
    c.word.invariant c.word-test.true
    (c.step-step.ensures.state ∙ ap (next_of c.args.plan.now c.word.config) c.vector-item.is)
    (c.step-step.ensures.reply ∙ ap (reply_of c.args.plan.now c.word.config) c.vector-item.is)
    c.step-step.ensures.configuration
    (rw c.as_slice.ensures.value at (rw (c.bytes.ensures ∙ c.set_numbers.ensures) at c.in-Ok.ensures.put))
