use Rattle.std.proofs.Common.{FitsSigned, w64, ◌∙◌}
use Rattle.std.proofs.lemmas.Int.{to_z-of_z}
use Rattle.lin_form.proofs.Directions.{divides_factor}
use Rattle.lin_form.proofs.direction.Direction.of.Goals as goal

pub quotients-requires-clause-divides : goal.quotients-requires-clause-divides
quotients-requires-clause-divides c =
    let fits : FitsSigned w64 c.factor.result = record { sfits = c.factor.type_inv } in
    let divisor : FitsSigned w64 c.common_divisor-divisor.result = record { sfits = c.common_divisor-divisor.type_inv } in
    divides_factor c.leads_positive-leads.result c.common_divisor-divisor.result _ c.args.coefficients.now
    (to_z-of_z w64 c.factor.result fits ∙ simp to_z-of_z at c.factor.ensures)
    c.common_divisor-divisor.ensures.common
