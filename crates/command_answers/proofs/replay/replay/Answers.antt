use Rattle.std.proofs.lemmas.Result.{err_from_is_err_and}
use Rattle.command_stages.proofs.Stages.{made_then, made_stop, made_exit, made_is}
use Rattle.run_stages.specs.Implementations.{signature_of}
use Rattle.command_answers.proofs.Seen.{fit_seen}
use Rattle.command_answers.proofs.replay.replay.Goals as goal

pub returns-in_err-suite : goal.returns-in_err-suite
returns-in_err-suite g c = made_exit _ _ c.in_err-suite.ensures (err_from_is_err_and _ c.from_residual.ensures.1)

pub returns-in_err-implementation : goal.returns-in_err-implementation
returns-in_err-implementation g c = made_then _ _ c.in_ok-suite.ensures (made_exit _ _ c.in_err-implementation.ensures (err_from_is_err_and _ c.from_residual-in_err-implementation.ensures.1))

pub returns-in-Err : goal.returns-in-Err
returns-in-Err g c = made_then _ _ c.in_ok-suite.ensures (made_then _ _ c.in_ok-implementation.ensures (made_stop _ _ (fit_seen 2 c.signature.result.now c.in_ok-suite.suite.signature (signature_of c.in_ok-implementation.implementation) c.signature.ensures (c.in-Err.ensures.made _ _))))

pub judge_by-requires : goal.judge_by-requires
judge_by-requires g c = rw c.signature.ensures at c.in-Ok.ensures.fits

pub returns-in_err-judged : goal.returns-in_err-judged
returns-in_err-judged g c = made_then _ _ c.in_ok-suite.ensures (made_then _ _ c.in_ok-implementation.ensures (made_then _ _ (fit_seen 2 c.signature.result.now c.in_ok-suite.suite.signature (signature_of c.in_ok-implementation.implementation) c.signature.ensures (c.in-Ok.ensures.made _ _)) (made_exit _ _ (c.in_err-judged.ensures _ _) (err_from_is_err_and _ c.from_residual-in_err-judged.ensures.1))))

pub returns : goal.returns
returns g c = made_then _ _ c.in_ok-suite.ensures (made_then _ _ c.in_ok-implementation.ensures (made_then _ _ (fit_seen 2 c.signature.result.now c.in_ok-suite.suite.signature (signature_of c.in_ok-implementation.implementation) c.signature.ensures (c.in-Ok.ensures.made _ _)) (made_then _ _ (c.in_ok-judged.ensures _ _) (made_is _ c.new.ensures))))
