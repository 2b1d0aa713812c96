use Rattle.suite_run.proofs.Turns.{not_same}
use Rattle.suite_run.proofs.run.differ.Goals as goal

pub returns : goal.returns
returns c = rw (c.eq.ensures) (not_same c.args.given.now c.args.expected.now)
