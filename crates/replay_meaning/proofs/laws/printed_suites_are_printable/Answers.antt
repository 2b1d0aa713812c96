use Rattle.replay_meaning.proofs.Printed.{printed_printable}
use Rattle.replay_meaning.proofs.laws.printed_suites_are_printable.Goals as goal

pub returns : goal.returns
returns c = printed_printable (record { alike = c.members_act_alike.ensures; fit = c.configurations_go_on.ensures.replies; limited = c.configurations_go_on.ensures.limited })
