use Rattle.charset.proofs.Apart.{parts_at}
use Rattle.charset.proofs.separating.parting_level.Goals as goal

pub returns-clause-parts : goal.returns-clause-parts
returns-clause-parts c =
    let m = c.args.fsm.now in
    let names = c.args.levels.now.names.items in
    parts_at m names c.args.levels.now.last c.requires.levels c.args.state c.args.other c.loop-level.level
    c.requires.state c.requires.other c.loop-level.invariant.upto
    c.loop-level.invariant.same (λ e. c.loop-level-test.false (rw (c.level_of.ensures.names, c.level_of-in-loop-level.ensures.names) e))
