use Rattle.lin_form.proofs.Normals.{IsNormalForm-decided}
use Rattle.lin_form.proofs.laws.normal_forms_are_computed.Goals as goal

pub returns : goal.returns
returns c = IsNormalForm-decided
