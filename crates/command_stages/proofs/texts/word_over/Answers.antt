use Rattle.chart_syntax.specs.Words.{ReadsWord, RefusesWord}
use Rattle.command_stages.proofs.Stages.{made_then, made_stop, made_read, made_not}
use Rattle.command_stages.proofs.texts.word_over.Goals as goal

pub returns-in-Err-clause-made : goal.returns-in-Err-clause-made
returns-in-Err-clause-made g c = made_stop _ _ c.in-Err.ensures

pub returns-in-Ok-read_word-clause-made : goal.returns-in-Ok-read_word-clause-made
returns-in-Ok-read_word-clause-made g c = made_then _ _ c.in-Ok.ensures (made_read _ (ReadsWord c.args.chart.now) (RefusesWord c.args.chart.now) c.bytes.ensures c.in-Ok-read_word.ensures.read)

pub returns-clause-made : goal.returns-clause-made
returns-clause-made g c = made_then _ _ c.in-Ok.ensures (rw c.refused.ensures (made_not _ (ReadsWord c.args.chart.now) (RefusesWord c.args.chart.now) c.in-Err-read_word.error c.bytes.ensures c.in-Err-read_word.ensures.refused))
