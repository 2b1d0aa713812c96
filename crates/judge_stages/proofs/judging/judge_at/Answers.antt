use Rattle.std.proofs.lemmas.Result.{err_from_is_err_and}
use Rattle.command_stages.proofs.Stages.{made_then, made_stop, made_exit, made_unknown}
use Rattle.judge_stages.proofs.Suited.{over_chart}
use Rattle.judge_stages.proofs.judging.judge_at.Goals as goal

pub returns-in_err-chart : goal.returns-in_err-chart
returns-in_err-chart g c = made_exit _ _ c.in_err-chart.ensures (err_from_is_err_and _ c.from_residual.ensures.1)

pub returns-in_err-cuts : goal.returns-in_err-cuts
returns-in_err-cuts g c = made_then _ _ c.in_ok-chart.ensures (made_exit _ _ c.in_err-cuts.ensures.made (err_from_is_err_and _ c.from_residual-in_err-cuts.ensures.1))

pub returns-in_err-implementation : goal.returns-in_err-implementation
returns-in_err-implementation g c = made_then _ _ c.in_ok-chart.ensures (made_then _ _ c.in_ok-cuts.ensures.made (made_exit _ _ c.in_err-implementation.ensures (err_from_is_err_and _ c.from_residual-in_err-implementation.ensures.1)))

pub returns-in-Err : goal.returns-in-Err
returns-in-Err g c = made_then _ _ c.in_ok-chart.ensures (made_then _ _ c.in_ok-cuts.ensures.made (made_then _ _ c.in_ok-implementation.ensures (made_stop _ _ (c.in-Err.ensures.made _ _))))

pub returns-in_err-partition : goal.returns-in_err-partition
returns-in_err-partition g c = made_then _ _ c.in_ok-chart.ensures (made_then _ _ c.in_ok-cuts.ensures.made (made_then _ _ c.in_ok-implementation.ensures (made_then _ _ (c.in-Ok.ensures.made _ _) (made_exit _ _ (c.in_err-partition.ensures.made _ _) (err_from_is_err_and _ c.from_residual-in_err-partition.ensures.1)))))

pub returns-in-Ok-new : goal.returns-in-Ok-new
returns-in-Ok-new g c = made_then _ _ c.in_ok-chart.ensures (made_then _ _ c.in_ok-cuts.ensures.made (made_then _ _ c.in_ok-implementation.ensures (made_then _ _ (c.in-Ok.ensures.made _ _) (made_then _ _ (c.in_ok-partition.ensures.made _ _) (over_chart _ _ _ _ _ c.in-Ok-new.ensures (c.judge_over.ensures _ _))))))

pub returns : goal.returns
returns g c = made_then _ _ c.in_ok-chart.ensures (made_then _ _ c.in_ok-cuts.ensures.made (made_then _ _ c.in_ok-implementation.ensures (made_then _ _ (c.in-Ok.ensures.made _ _) (made_then _ _ (c.in_ok-partition.ensures.made _ _) (made_stop _ _ (made_stop _ _ (made_unknown _ _)))))))
