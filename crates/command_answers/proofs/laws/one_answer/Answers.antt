use Rattle.command_answers.proofs.One.{one, only}
use Rattle.command_answers.proofs.laws.one_answer.Goals as goal

pub returns-clause-one : goal.returns-clause-one
returns-clause-one c = one (record { charts = c.chart_or_refusal.ensures; words = c.word_or_refusal.ensures; cuts = c.cuts_or_refusal.ensures; tables = c.table_or_refusal.ensures; verdicts = c.verdict_on_answers.ensures.one; suites = c.reading_is_one.ensures })

pub returns-clause-named : goal.returns-clause-named
returns-clause-named c = only (record { charts = c.chart_or_refusal.ensures; words = c.word_or_refusal.ensures; cuts = c.cuts_or_refusal.ensures; tables = c.table_or_refusal.ensures; verdicts = c.verdict_on_answers.ensures.one; suites = c.reading_is_one.ensures })
