use Rattle.std.proofs.Common.{rules, drop}
use Rattle.test_world.proofs.Writing.{writes_on}
use Rattle.test_world.proofs.holding.write_rest.Goals as goal

pub loop-start-preserved : goal.loop-start-preserved
loop-start-preserved g c = record {
  within = search rules;
  kept = writes_on _ _ _ (drop c.args.start.now c.args.bytes.now) c.args.bytes.now c.loop-start.start c.in_ok-count.count c.loop-start.invariant.kept c.in_ok-count.ensures.wrote;
  same = search rules;
}
