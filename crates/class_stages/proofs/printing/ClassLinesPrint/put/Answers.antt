use Rattle.std.proofs.Common.{ap, sym, ◌∙◌}
use Rattle.command_stages.specs.Stage.{Printed}
use Rattle.class_stages.proofs.Putting.{narrow, put_both, put_first}
use Rattle.class_stages.proofs.printing.ClassLinesPrint.put.Goals as goal

pub put_classes-requires-clause-witnesses : goal.put_classes-requires-clause-witnesses
put_classes-requires-clause-witnesses g c = rw c.classes.ensures.value (narrow c.self.inside.partition c.bounds.ensures.exact (rw c.bounds.ensures.value at c.inputs-inputs.ensures.ranged))

pub returns-in-Err-clause-put : goal.returns-in-Err-clause-put
returns-in-Err-clause-put g c = put_first c.self.inside.partition (ap (λ (p : Printed). p.text) (sym c.self.view_is)) (rw (c.as_slice.ensures.value ∙ c.atoms.ensures.value) at c.in-Err.ensures)

pub returns-clause-put : goal.returns-clause-put
returns-clause-put g c = put_both c.self.inside.partition (ap (λ (p : Printed). p.text) (sym c.self.view_is)) (rw (c.as_slice.ensures.value ∙ c.atoms.ensures.value) at c.in-Ok.ensures) (rw c.classes.ensures.value at c.put_classes.ensures)
