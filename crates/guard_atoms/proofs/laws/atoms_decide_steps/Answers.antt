use Rattle.guard_atoms.proofs.Agreeing.{next_of-atoms}
use Rattle.guard_atoms.proofs.laws.atoms_decide_steps.Goals as goal

pub returns : goal.returns
returns c = next_of-atoms
