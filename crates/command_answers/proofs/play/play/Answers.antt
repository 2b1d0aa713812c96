use Rattle.std.proofs.Common.{true, ap}
use Rattle.std.proofs.lemmas.Result.{err_from_is_err_and}
use Rattle.command_stages.proofs.Stages.{made_then, made_exit, made_is, made_nothing}
use Rattle.chart_model.specs.declared.chart.Chart.{Chart}
use Rattle.command_stages.specs.Stage.{Printed}
use Rattle.command_answers.specs.Play.{play_text}
use Rattle.command_answers.proofs.play.play.Goals as goal

pub returns-in_err-chart : goal.returns-in_err-chart
returns-in_err-chart g c = made_exit _ _ c.in_err-chart.ensures (err_from_is_err_and _ c.from_residual.ensures.1)

pub returns-in_err-word : goal.returns-in_err-word
returns-in_err-word g c = made_then _ _ c.in_ok-chart.ensures (made_exit _ _ c.in_err-word.ensures.made (err_from_is_err_and _ c.from_residual-in_err-word.ensures.1))

pub returns-in-Ok : goal.returns-in-Ok
returns-in-Ok g c = made_then _ _ c.in_ok-chart.ensures (made_then _ _ c.in_ok-word.ensures.made (made_is _ (ap (λ (plan : Chart). let printed : Printed = record { passes = true; text = play_text plan c.in_ok-word.word } in printed) c.in-Ok.ensures)))

pub returns-in-Err : goal.returns-in-Err
returns-in-Err g c = made_then _ _ c.in_ok-chart.ensures (made_then _ _ c.in_ok-word.ensures.made (made_nothing _))
