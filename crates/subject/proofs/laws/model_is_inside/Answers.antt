use Rattle.std.proofs.Common.{refl}
use Rattle.subject.specs.Domain.{box}
use Rattle.subject.proofs.Lifting.{by_classes}
use Rattle.subject.proofs.laws.model_is_inside.Goals as goal

pub returns : goal.returns
returns g c = λ r n covers alike most. record {
  fits = record { names = refl; ranges = refl; outputs = refl };
  states = most;
  classes = by_classes (box (g.P.Plan.plan c.args.model.now) r) r (g.P.Plan.plan c.args.model.now) covers alike;
}
