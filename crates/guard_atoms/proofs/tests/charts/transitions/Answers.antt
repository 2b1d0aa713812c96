use Rattle.guard_atoms.proofs.SmallCharts.{one_move}
use Rattle.guard_atoms.proofs.tests.charts.transitions.Goals as goal

pub loop-test-preserved : goal.loop-test-preserved
loop-test-preserved g c = one_move c.args.states.now c.loop-test.transitions c.push.new.self c.transition.result c.loop-test.test-index c.in_ok-push.ensures.ok c.transition.ensures c.loop-test.invariant
