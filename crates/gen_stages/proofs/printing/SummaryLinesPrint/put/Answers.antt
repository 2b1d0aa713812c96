use Rattle.test_world.proofs.Growing.{puts_then}
use Rattle.gen_stages.proofs.printing.SummaryLinesPrint.put.Goals as goal

pub returns-in-Ok-clause-put : goal.returns-in-Ok-clause-put
returns-in-Ok-clause-put g c = rw (← c.self.view_is) (puts_then (rw c.bytes.ensures at c.in-Ok.ensures.put) c.put.ensures.put)
