use Rattle.std.proofs.Common.{FitsSigned, w64, rules, subst}
use Rattle.std.proofs.lemmas.Int.{to_z-of_z}
use Rattle.lin_form.specs.Inequality.{AreZero}
use Rattle.lin_form.proofs.direction.Direction.literal_of.Goals as goal

pub returns-clause-literal : goal.returns-clause-literal
returns-clause-literal c =
    let fits : FitsSigned w64 c.self.inside.divisor = search rules in
    let small : FitsSigned w64 c.args.constant = search rules in
    rw (← c.self.view_is) (simp to_z-of_z at c.literal_on.ensures)

pub returns-clause-some : goal.returns-clause-some
returns-clause-some c = subst (λ whole. AreZero whole → ⊥) c.self.view_is c.self.invariant.some
