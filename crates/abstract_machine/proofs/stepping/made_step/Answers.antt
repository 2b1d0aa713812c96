use Rattle.std.proofs.Common.{arith}
use Rattle.lin_form.specs.Same.{same_numbers}
use Rattle.abstract_machine.proofs.Branching.{made}
use Rattle.abstract_machine.proofs.stepping.made_step.Goals as goal

pub returns-clause-step : goal.returns-clause-step
returns-clause-step g c =
    made (g.P.Plan.plan c.args.plan.now) c.args.states.now.keys c.args.replies.now.keys c.args.state.now c.args.input.now
    c.number_of.new.keys.keys c.number_of-2.new.keys.keys c.in_ok-next.next c.in_ok-reply.reply
    c.advance-step.result.state c.advance-step.result.reply c.advance-step.ensures.state c.advance-step.ensures.reply
    (c.in_ok-next.ensures.numbered g.met.P.Plan.same) (c.in_ok-reply.ensures.numbered same_numbers)
    (omega (arith, c.if-next-ge1024.false))
