use Rattle.guard_atoms.proofs.Saying.{adds_on}
use Rattle.guard_atoms.proofs.assumptions.add_claim.Goals as goal

pub returns : goal.returns
returns c = adds_on c.args.assumption.now c.args.literals.now.items c.push_claim.new.literals.items c.in-Ok.claim c.push_claim.result c.in-Ok.ensures.claim c.in-Ok.ensures.width c.push_claim.ensures
