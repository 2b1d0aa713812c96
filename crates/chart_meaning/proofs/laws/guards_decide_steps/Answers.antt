use Rattle.chart_meaning.proofs.Deciding.{next_of-alike}
use Rattle.chart_meaning.proofs.laws.guards_decide_steps.Goals as goal

pub returns : goal.returns
returns c = next_of-alike
