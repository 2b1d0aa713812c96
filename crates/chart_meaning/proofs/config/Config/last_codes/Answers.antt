use Rattle.std.proofs.Common.{sym}
use Rattle.chart_meaning.specs.Same.{map-child_of}
use Rattle.chart_meaning.proofs.config.Config.last_codes.Goals as goal

pub returns : goal.returns
returns c = rw (← c.self.view_is) (sym (map-child_of _))
