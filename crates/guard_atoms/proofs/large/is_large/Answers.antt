use Rattle.guard_atoms.proofs.Sizes.{large_is}
use Rattle.guard_atoms.proofs.large.is_large.Goals as goal

pub returns : goal.returns
returns c = large_is c.is_small.result c.args.comparison.now c.is_small.ensures
