use Rattle.std.proofs.lemmas.Result.{err_from_is_err_and}
use Rattle.command_stages.proofs.Stages.{made_then, made_stop, made_exit, made_is, made_nothing, made_unknown}
use Rattle.gen_stages.proofs.Piping.{uncut, parted, leasted}
use Rattle.gen_stages.proofs.summing.summary_of.Goals as goal

pub returns-in_err-chart : goal.returns-in_err-chart
returns-in_err-chart c = λ words shelf. made_exit _ _ (c.in_err-chart.ensures _ _) (err_from_is_err_and _ c.from_residual.ensures.1)

pub returns-in_err-partition : goal.returns-in_err-partition
returns-in_err-partition c = λ words shelf. made_then _ _ (c.in_ok-chart.ensures _ _) (made_exit _ _ (uncut c.in_ok-chart.chart c.none-cuts.result c.none-cuts.ensures c.in_err-partition.ensures.made _ _) (err_from_is_err_and _ c.from_residual-in_err-partition.ensures.1))

pub returns-in-Err : goal.returns-in-Err
returns-in-Err c = λ words shelf. made_then _ _ (c.in_ok-chart.ensures _ _) (made_then _ _ (uncut c.in_ok-chart.chart c.none-cuts.result c.none-cuts.ensures c.in_ok-partition.ensures.made _ _) (made_stop _ _ (made_stop _ _ (made_unknown _ _))))

pub least_suite_over-requires : goal.least_suite_over-requires
least_suite_over-requires c = parted c.in-Ok.plan c.in_ok-chart.chart c.none-cuts.result c.in_ok-partition.partition c.in-Ok.ensures c.in_ok-partition.ensures.partition

pub returns-in_err-least : goal.returns-in_err-least
returns-in_err-least c = λ words shelf. made_then _ _ (c.in_ok-chart.ensures _ _) (made_then _ _ (uncut c.in_ok-chart.chart c.none-cuts.result c.none-cuts.ensures c.in_ok-partition.ensures.made _ _)
    (made_exit _ _ (leasted c.in-Ok.plan c.in_ok-chart.chart c.in_ok-partition.partition c.in-Ok.ensures c.in_err-least.ensures _ _) (err_from_is_err_and _ c.from_residual-in_err-least.ensures.1)))

pub returns-in_err-other : goal.returns-in_err-other
returns-in_err-other c = λ words shelf. made_then _ _ (c.in_ok-chart.ensures _ _) (made_then _ _ (uncut c.in_ok-chart.chart c.none-cuts.result c.none-cuts.ensures c.in_ok-partition.ensures.made _ _)
    (made_then _ _ (leasted c.in-Ok.plan c.in_ok-chart.chart c.in_ok-partition.partition c.in-Ok.ensures c.in_ok-least.ensures _ _) (made_exit _ _ (c.in_err-other.ensures.made _ _) (err_from_is_err_and _ c.from_residual-in_err-other.ensures.1))))

pub judge_by-requires : goal.judge_by-requires
judge_by-requires c = rw c.signature.ensures at c.in_ok-other.ensures.fits

pub returns-in_err-judged : goal.returns-in_err-judged
returns-in_err-judged c = λ words shelf. made_then _ _ (c.in_ok-chart.ensures _ _) (made_then _ _ (uncut c.in_ok-chart.chart c.none-cuts.result c.none-cuts.ensures c.in_ok-partition.ensures.made _ _)
    (made_then _ _ (leasted c.in-Ok.plan c.in_ok-chart.chart c.in_ok-partition.partition c.in-Ok.ensures c.in_ok-least.ensures _ _) (made_then _ _ (c.in_ok-other.ensures.made _ _) (made_exit _ _ (c.in_err-judged.ensures _ _) (err_from_is_err_and _ c.from_residual-in_err-judged.ensures.1)))))

pub returns-in-Ok-new : goal.returns-in-Ok-new
returns-in-Ok-new c = λ words shelf. made_then _ _ (c.in_ok-chart.ensures _ _) (made_then _ _ (uncut c.in_ok-chart.chart c.none-cuts.result c.none-cuts.ensures c.in_ok-partition.ensures.made _ _)
    (made_then _ _ (leasted c.in-Ok.plan c.in_ok-chart.chart c.in_ok-partition.partition c.in-Ok.ensures c.in_ok-least.ensures _ _) (made_then _ _ (c.in_ok-other.ensures.made _ _) (made_then _ _ (c.in_ok-judged.ensures _ _) (made_is _ c.in-Ok-new.ensures)))))

pub returns : goal.returns
returns c = λ words shelf. made_then _ _ (c.in_ok-chart.ensures _ _) (made_then _ _ (uncut c.in_ok-chart.chart c.none-cuts.result c.none-cuts.ensures c.in_ok-partition.ensures.made _ _)
    (made_then _ _ (leasted c.in-Ok.plan c.in_ok-chart.chart c.in_ok-partition.partition c.in-Ok.ensures c.in_ok-least.ensures _ _) (made_then _ _ (c.in_ok-other.ensures.made _ _) (made_then _ _ (c.in_ok-judged.ensures _ _) (made_nothing _)))))
