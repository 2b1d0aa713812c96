use Rattle.std.proofs.lemmas.Result.{err_from_is_err_and}
use Rattle.command_stages.proofs.Stages.{made_then, made_exit, made_is}
use Rattle.command_answers.proofs.run.run.Goals as goal

pub returns-in_err-judged : goal.returns-in_err-judged
returns-in_err-judged g c = made_exit _ _ c.in_err-judged.ensures (err_from_is_err_and _ c.from_residual.ensures.1)

pub returns : goal.returns
returns g c = made_then _ _ c.in_ok-judged.ensures (made_is _ c.new.ensures)
