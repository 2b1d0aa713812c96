use Rattle.std.proofs.lemmas.List.Elements.{All-weaker}
use Rattle.input_classes.specs.VectorSet.{IsIn}
use Rattle.subject.proofs.Method.{equal_by_tests}
use Rattle.subject.proofs.laws.tested_plan_is_equal.Goals as goal

pub returns : goal.returns
returns g c = λ s t cover marks d within tested most. equal_by_tests t (g.P.Plan.plan c.args.model.now) (g.Q.Plan.plan c.args.other.now) cover marks d tested s (λ w h. All-weaker (IsIn t) (IsIn s) within w h) most
