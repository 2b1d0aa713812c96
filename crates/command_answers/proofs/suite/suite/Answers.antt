use Rattle.std.proofs.Common.{true, refl}
use Rattle.std.proofs.lemmas.Result.{err_from_is_err_and}
use Rattle.command_stages.proofs.Stages.{made_then, made_stop, made_exit, made_is, made_nothing, made_unknown}
use Rattle.command_answers.proofs.Piping.{suited}
use Rattle.command_answers.proofs.suite.suite.Goals as goal

pub returns-in_err-chart : goal.returns-in_err-chart
returns-in_err-chart g c = made_exit _ _ c.in_err-chart.ensures (err_from_is_err_and _ c.from_residual.ensures.1)

pub returns-in_err-cuts : goal.returns-in_err-cuts
returns-in_err-cuts g c = made_then _ _ c.in_ok-chart.ensures (made_exit _ _ c.in_err-cuts.ensures.made (err_from_is_err_and _ c.from_residual-in_err-cuts.ensures.1))

pub returns-in_err-partition : goal.returns-in_err-partition
returns-in_err-partition g c = made_then _ _ c.in_ok-chart.ensures (made_then _ _ c.in_ok-cuts.ensures.made (made_exit _ _ (c.in_err-partition.ensures.made _ _) (err_from_is_err_and _ c.from_residual-in_err-partition.ensures.1)))

pub returns-in-Err : goal.returns-in-Err
returns-in-Err g c = made_then _ _ c.in_ok-chart.ensures (made_then _ _ c.in_ok-cuts.ensures.made (made_then _ _ (c.in_ok-partition.ensures.made _ _) (made_stop _ _ (made_stop _ _ (made_unknown _ _)))))

pub returns-in_err-suite : goal.returns-in_err-suite
returns-in_err-suite g c = made_then _ _ c.in_ok-chart.ensures (made_then _ _ c.in_ok-cuts.ensures.made (made_then _ _ (c.in_ok-partition.ensures.made _ _)
    (made_exit _ _ (suited c.args.bound c.in-Ok.plan c.in_ok-chart.chart c.in_ok-partition.partition c.in-Ok.ensures c.in_err-suite.ensures _ _) (err_from_is_err_and _ c.from_residual-in_err-suite.ensures.1))))

pub returns-in-Ok-new : goal.returns-in-Ok-new
returns-in-Ok-new g c = made_then _ _ c.in_ok-chart.ensures (made_then _ _ c.in_ok-cuts.ensures.made (made_then _ _ (c.in_ok-partition.ensures.made _ _)
    (made_then _ _ (suited c.args.bound c.in-Ok.plan c.in_ok-chart.chart c.in_ok-partition.partition c.in-Ok.ensures c.in_ok-suite.ensures _ _) (made_is _ c.in-Ok-new.ensures))))

pub returns : goal.returns
returns g c = made_then _ _ c.in_ok-chart.ensures (made_then _ _ c.in_ok-cuts.ensures.made (made_then _ _ (c.in_ok-partition.ensures.made _ _)
    (made_then _ _ (suited c.args.bound c.in-Ok.plan c.in_ok-chart.chart c.in_ok-partition.partition c.in-Ok.ensures c.in_ok-suite.ensures _ _) (made_nothing _))))
