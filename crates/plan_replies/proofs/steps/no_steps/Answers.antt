use Rattle.std.proofs.Common.{[]}
use Rattle.input_classes.specs.VectorSet.{box_of}
use Rattle.plan_replies.proofs.Stepping.{none_made}
use Rattle.plan_replies.proofs.steps.no_steps.Goals as goal

pub returns-clause-are : goal.returns-clause-are
returns-clause-are g c =
    let m = g.P.Plan.plan c.args.plan.now in
    let found = c.in_ok-_start.ensures g.met.P.Plan.same in
    rw (c.new.ensures.items, c.new-2.ensures.items, c.new-3.ensures.items)
    (none_made m c.args.classes.now c.number_of.new.keys.keys c.in_ok-_start._start (rw (c.begin.ensures, c.new-states.ensures.empty) at found) (c.reaching.ensures.start (box_of m.signature [])))
