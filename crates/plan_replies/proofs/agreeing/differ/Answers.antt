use Rattle.plan_replies.proofs.Expecting.{not_same}
use Rattle.plan_replies.proofs.agreeing.differ.Goals as goal

pub returns : goal.returns
returns c = rw (c.eq.ensures) (not_same c.args.given.now c.args.expected.now)
