use Rattle.guard_atoms.proofs.Agreeing.{members-alike}
use Rattle.guard_atoms.proofs.laws.members_act_alike.Goals as goal

pub returns : goal.returns
returns c = members-alike
