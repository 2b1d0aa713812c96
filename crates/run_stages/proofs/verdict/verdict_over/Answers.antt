use Rattle.command_stages.proofs.Stages.{made_is, made_nothing}
use Rattle.run_stages.proofs.Judging.{chart_judged, table_judged}
use Rattle.run_stages.proofs.verdict.verdict_over.Goals as goal

pub returns-in-Ok-clause-made : goal.returns-in-Ok-clause-made
returns-in-Ok-clause-made c = λ words shelf. made_is _ (chart_judged c.args.suite.now c.args.implementation c.in-Ok.plan c.in-Chart.chart c.verdict_by_words.result c.in-Chart.is c.in-Ok.ensures c.verdict_by_words.ensures.verdict)

pub returns-in-Err-clause-made : goal.returns-in-Err-clause-made
returns-in-Err-clause-made c = λ words shelf. made_nothing _

pub returns-in-Table-clause-made : goal.returns-in-Table-clause-made
returns-in-Table-clause-made c = λ words shelf. made_is _ (table_judged c.args.suite.now c.args.implementation c.in-Table.table c.verdict_by_words-in-Table.result c.in-Table.is c.verdict_by_words-in-Table.ensures.verdict)
