use Rattle.command_meaning.proofs.Meaning.{meant}
use Rattle.command_meaning.proofs.laws.texts_show.Goals as goal

pub returns : goal.returns
returns c = meant c.members_act_alike.ensures
