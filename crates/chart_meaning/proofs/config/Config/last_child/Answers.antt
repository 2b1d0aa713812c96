use Rattle.chart_meaning.proofs.Storing.{Some_child_at}
use Rattle.chart_meaning.proofs.config.Config.last_child.Goals as goal

pub returns-else-code-eq0 : goal.returns-else-code-eq0
returns-else-code-eq0 c =
    rw (← c.self.view_is)
    (Some_child_at c.self.inside.state_count c.self.inside.last c.args.state (rw (← c.self.view_is) at c.requires)
    c.if-code-eq0.false)
