use Rattle.std.proofs.Common.{FitsSigned, w64, rules, subst}
use Rattle.std.proofs.lemmas.Int.{to_z-of_z}
use Rattle.lin_form.specs.Inequality.{AreZero}
use Rattle.lin_form.proofs.Directions.{IsDirection-turned, whole_turned}
use Rattle.lin_form.proofs.direction.Direction.opposite_literal.Goals as goal

pub literal_on-requires-clause-direction : goal.literal_on-requires-clause-direction
literal_on-requires-clause-direction c =
    let fits : FitsSigned w64 c.self.inside.divisor = search rules in
    let turned = IsDirection-turned c.self.inside.leads c.self.inside.divisor c.self.inside.normal c.self.invariant in
    simp to_z-of_z turned

pub returns-clause-literal : goal.returns-clause-literal
returns-clause-literal c =
    let fits : FitsSigned w64 c.self.inside.divisor = search rules in
    let small : FitsSigned w64 c.args.constant = search rules in
    let said = simp to_z-of_z at c.literal_on.ensures in
    rw (← c.self.view_is, ← whole_turned c.self.inside.leads c.self.inside.divisor c.self.inside.normal) said

pub returns-clause-some : goal.returns-clause-some
returns-clause-some c = subst (λ whole. AreZero whole → ⊥) c.self.view_is c.self.invariant.some
