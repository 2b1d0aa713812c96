use Rattle.std.proofs.lemmas.Result.{err_from_is_err_and}
use Rattle.command_stages.proofs.Stages.{made_then, made_stop, made_exit, made_is, made_nothing}
use Rattle.judge_stages.proofs.judging.judge_by.Goals as goal

pub returns-in-Err : goal.returns-in-Err
returns-in-Err c = λ words shelf. made_stop _ _ (made_nothing _)

pub returns-in_err-verdict : goal.returns-in_err-verdict
returns-in_err-verdict c = λ words shelf. made_exit _ _ (c.in_err-verdict.ensures.made words shelf) (err_from_is_err_and _ c.from_residual.ensures.1)

pub returns : goal.returns
returns c = λ words shelf. made_then _ _ (c.in_ok-verdict.ensures.made words shelf) (made_is _ c.new.ensures)
