use Rattle.run_stages.proofs.Fits.{made_fit, made_unfit}
use Rattle.run_stages.proofs.fitting.fits_over.Goals as goal

pub returns-in-Ok-clause-made : goal.returns-in-Ok-clause-made
returns-in-Ok-clause-made c = λ words shelf. made_fit c.args.name c.args.model.now _ _ c.signature-other.ensures c.in-Ok.ensures.difference

pub returns-in-Err-clause-made : goal.returns-in-Err-clause-made
returns-in-Err-clause-made c = λ words shelf. made_unfit c.args.name c.args.model.now _ _ c.in-Err.unfit _ c.signature-other.ensures c.place-place.ensures c.in-Err.ensures.difference
