use Rattle.std.proofs.lemmas.Result.{err_from_is_err_and}
use Rattle.command_stages.proofs.Stages.{made_then, made_exit}
use Rattle.judge_stages.proofs.Suited.{fits_suite}
use Rattle.judge_stages.proofs.judging.judge_over.Goals as goal

pub returns-in_err-suite : goal.returns-in_err-suite
returns-in_err-suite c = λ words shelf. made_exit _ _ (c.in_err-suite.ensures words shelf) (err_from_is_err_and _ c.from_residual.ensures.1)

pub judge_by-requires : goal.judge_by-requires
judge_by-requires c = fits_suite c.args.bound c.args.plan.now c.args.partition.now _ c.args.implementation c.in_ok-suite.ensures c.requires.fits

pub returns : goal.returns
returns c = λ words shelf. made_then _ _ (c.in_ok-suite.ensures words shelf) (c.judge_by.ensures words shelf)
