use Rattle.chart_syntax.proofs.DecidingWords.{word_decided}
use Rattle.chart_syntax.proofs.laws.word_or_refusal.Goals as goal

pub returns : goal.returns
returns c = word_decided c.one_parse.ensures c.some_parse.ensures
