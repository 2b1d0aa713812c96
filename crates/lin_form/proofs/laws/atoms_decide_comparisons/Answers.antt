use Rattle.lin_form.proofs.Deciding.{atoms-decide}
use Rattle.lin_form.proofs.laws.atoms_decide_comparisons.Goals as goal

pub returns : goal.returns
returns c = atoms-decide
