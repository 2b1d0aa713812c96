use Rattle.std.proofs.Common.{FitsSigned, get_or, pos, rules}
use Rattle.std.specs.Int.{w16}
use Rattle.chart_meaning.proofs.Storing.{four_widened}
use Rattle.chart_meaning.proofs.config.Config.memory.Goals as goal

pub returns : goal.returns
returns c =
    let a : FitsSigned w16 (get_or c.self.inside.memory 0 (pos 0)) = search rules in
    let b : FitsSigned w16 (get_or c.self.inside.memory 1 (pos 0)) = search rules in
    let d : FitsSigned w16 (get_or c.self.inside.memory 2 (pos 0)) = search rules in
    let e : FitsSigned w16 (get_or c.self.inside.memory 3 (pos 0)) = search rules in
    rw (← c.self.view_is) (four_widened _ _ c.self.invariant.memory_places a b d e)
