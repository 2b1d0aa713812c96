use Rattle.guard_atoms.proofs.Agreeing.{patterns-alike}
use Rattle.guard_atoms.proofs.laws.patterns_act_alike.Goals as goal

pub returns : goal.returns
returns c = patterns-alike
