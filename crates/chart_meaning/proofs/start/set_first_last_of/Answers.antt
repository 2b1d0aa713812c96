use Rattle.std.proofs.Common.{◌∙◌, sym, refl}
use Rattle.chart_meaning.proofs.Starting.{set_same}
use Rattle.chart_meaning.proofs.start.set_first_last_of.Goals as goal

pub returns-in_default : goal.returns-in_default
returns-in_default c =
    let none = sym c.first_last.ensures.value ∙ c.in_default.is in
    rw (none, set_same c.args.config.now.last c.args.state _ c.requires.none) refl
