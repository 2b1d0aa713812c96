use Rattle.std.proofs.Common.{sym, ◌∙◌}
use Rattle.command_stages.proofs.Serving.{served_stop}
use Rattle.classtest.proofs.Ending.{at_true, at_false, at_stop}
use Rattle.classtest.proofs.top.classtest.Goals as goal

pub returns-in-Err-clause-served : goal.returns-in-Err-clause-served
returns-in-Err-clause-served g c = served_stop c.one_answer.ensures.one c.in-Err.ensures c.status.ensures c.report.ensures

pub returns-in-Err-clause-means : goal.returns-in-Err-clause-means
returns-in-Err-clause-means g c = λ passes is. absurd (at_stop c.in-Err.stop passes (sym c.status.ensures ∙ is))

pub returns-in-Ok-true-clause-means : goal.returns-in-Ok-true-clause-means
returns-in-Ok-true-clause-means g c = at_true c.texts_show.ensures _ (rw c.in-Ok-true.field-0-test at c.in-Ok-true.ensures)

pub returns-in-Ok-false-clause-means : goal.returns-in-Ok-false-clause-means
returns-in-Ok-false-clause-means g c = at_false c.texts_show.ensures _ (rw c.in-Ok-false.field-0-test at c.in-Ok-false.ensures)
