use Rattle.std.proofs.Common.{◌<◌, arith, length}
use Rattle.plan_replies.proofs.Expecting.{more_expected, number_low}
use Rattle.plan_replies.proofs.agreeing.are_expected.Goals as goal

pub index-requires-in-loop-number : goal.index-requires-in-loop-number
index-requires-in-loop-number g c =
    let m = g.P.Plan.plan c.args.plan.now in
    let new = c.put_word.new.steps in
    let low : c.index.result.now < length new.replies.items =
    number_low m c.args.classes.now c.args.pool.now.words c.loop-number.number new.states.keys new.met.items new.nexts.items new.replies.items c.put_word.new.numbers.items
    c.in_ok-put_word.ensures.steps c.in_ok-put_word.ensures.numbers c.loop-number.invariant.some c.index.result.now c.index.ensures in
    omega (arith, low, new.replies.ok)

pub loop-number-preserved : goal.loop-number-preserved
loop-number-preserved g c =
    let m = g.P.Plan.plan c.args.plan.now in
    let new = c.put_word.new.steps in
    let l = c.loop-number in
    let inside : l.number < length c.args.pool.now.words = omega (arith, c.loop-number-test.true, l.invariant.count) in
    record {
      steps = c.in_ok-put_word.ensures.steps;
      numbers = c.in_ok-put_word.ensures.numbers;
      same = more_expected m c.args.classes.now c.args.pool.now.words l.number new.states.keys new.nexts.items new.replies.items c.put_word.new.numbers.items c.args.expected.now l.invariant.same
          c.in_ok-put_word.ensures.numbers l.invariant.some inside c.requires.one_each c.index.result.now c.index-in-loop-number.result.now c.at.result.now c.index.ensures c.index-in-loop-number.ensures
          c.at.ensures c.if-differ.ensures;
      some = omega arith;
      count = l.invariant.count;
      upto = omega (arith, c.loop-number-test.true);
    }
