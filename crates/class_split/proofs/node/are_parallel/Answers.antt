use Rattle.std.proofs.Common.{◌∙◌, sym}
use Rattle.lin_form.specs.Same.{same_numbers}
use Rattle.class_split.proofs.node.are_parallel.Goals as goal

pub returns : goal.returns
returns c = λ h. same_numbers c.args.one.now.coefficients c.args.other.now.coefficients (sym c.eq.ensures ∙ h)
