use Rattle.std.proofs.Common.{◌≡◌, arith, length, subst, sym}
use Rattle.plan_replies.specs.Replies.{AreReplies}
use Rattle.plan_replies.proofs.Numbers.{numbers_inside, replies_all}
use Rattle.plan_replies.proofs.walk.replies_of.Goals as goal

pub numbered-requires : goal.numbered-requires
numbered-requires g c =
    let l = c.loop-number in
    numbers_inside (g.P.Plan.plan c.args.plan.now) c.args.classes.now c.args.pool.now.words l.number l.steps.states.keys l.steps.met.items l.steps.nexts.items l.steps.replies.items l.numbers.items
    l.invariant.steps l.invariant.numbers

pub returns : goal.returns
returns g c =
    let m = g.P.Plan.plan c.args.plan.now in
    let words = c.args.pool.now.words in
    let l = c.loop-number in
    let all : l.number ≡ length words = omega (arith, c.loop-number-test.false, l.invariant.upto, l.invariant.count) in
    subst (AreReplies m c.args.classes.now words) (sym c.numbered.ensures)
    (replies_all m c.args.classes.now words l.number l.steps.states.keys l.steps.met.items l.steps.nexts.items l.steps.replies.items l.numbers.items l.invariant.steps l.invariant.numbers all)
