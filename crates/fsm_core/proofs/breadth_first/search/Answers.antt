use Rattle.std.proofs.Common.{◌≡◌, arith}
use Rattle.fsm_core.proofs.Searching.{all_reached}
use Rattle.fsm_core.proofs.breadth_first.search.Goals as goal

pub returns-clause-all : goal.returns-clause-all
returns-clause-all c = all_reached c.args.fsm.now c.states.ensures.sound c.loop-at.flags.items c.loop-at.found.items c.loop-at.at c.loop-at.invariant
    (omega (arith, c.loop-at-test.false, c.len.ensures, c.loop-at.found.ok.0))
