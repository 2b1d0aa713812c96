use Rattle.line_checks.proofs.Kept.{guard_fits}
use Rattle.line_checks.proofs.laws.guards_fit.Goals as goal

pub returns : goal.returns
returns c = guard_fits
