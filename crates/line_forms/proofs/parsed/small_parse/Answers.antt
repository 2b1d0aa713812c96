use Rattle.std.proofs.Common.{◌∷◌}
use Rattle.line_forms.proofs.Formed.{small_formed}
use Rattle.line_forms.proofs.parsed.small_parse.Goals as goal

pub returns : goal.returns
returns g c = λ line parsed is.
    let ts = is.first ∷ is.more in
    small_formed g.F.LineForm.Is g.F.LineForm.Small ts (λ said says. c.small.ensures line ts said is.lexed says) parsed.form is.says.form
