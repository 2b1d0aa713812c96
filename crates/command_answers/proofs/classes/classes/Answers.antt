use Rattle.std.proofs.Common.{true, refl}
use Rattle.std.proofs.lemmas.Result.{err_from_is_err_and}
use Rattle.command_stages.proofs.Stages.{made_then, made_exit, made_is}
use Rattle.command_answers.proofs.classes.classes.Goals as goal

pub returns-in_err-chart : goal.returns-in_err-chart
returns-in_err-chart g c = made_exit _ _ c.in_err-chart.ensures (err_from_is_err_and _ c.from_residual.ensures.1)

pub returns-in_err-cuts : goal.returns-in_err-cuts
returns-in_err-cuts g c = made_then _ _ c.in_ok-chart.ensures (made_exit _ _ c.in_err-cuts.ensures.made (err_from_is_err_and _ c.from_residual-in_err-cuts.ensures.1))

pub returns-in_err-partition : goal.returns-in_err-partition
returns-in_err-partition g c = made_then _ _ c.in_ok-chart.ensures (made_then _ _ c.in_ok-cuts.ensures.made (made_exit _ _ (c.in_err-partition.ensures.made _ _) (err_from_is_err_and _ c.from_residual-in_err-partition.ensures.1)))

pub returns : goal.returns
returns g c = made_then _ _ c.in_ok-chart.ensures (made_then _ _ c.in_ok-cuts.ensures.made (made_then _ _ (c.in_ok-partition.ensures.made _ _) (made_is _ c.new.ensures)))
