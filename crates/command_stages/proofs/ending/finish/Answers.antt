use Rattle.command_stages.proofs.Finishing.{not_handed_on}
use Rattle.command_stages.proofs.ending.finish.Goals as goal

pub returns : goal.returns
returns g c = rw c.in-Ok.is (not_handed_on c.in-Ok-put.ensures.put c.in-Err-flush.ensures)
