use Rattle.chart_syntax.proofs.Deciding.{chart_decided}
use Rattle.chart_syntax.proofs.laws.chart_or_refusal.Goals as goal

pub returns : goal.returns
returns c = chart_decided c.one_parse.ensures c.some_parse.ensures c.small_parse.ensures
