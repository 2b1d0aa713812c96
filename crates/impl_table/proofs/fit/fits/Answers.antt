use Rattle.std.proofs.Common.{sym, ◌∙◌}
use Rattle.impl_table.specs.Fitting.{inputs_difference}
use Rattle.impl_table.proofs.Differences.{fits_after, unfit_after, unfit_inputs}
use Rattle.impl_table.proofs.fit.fits.Goals as goal

pub returns-in-Err-clause-differs : goal.returns-in-Err-clause-differs
returns-in-Err-clause-differs c =
    unfit_inputs c.args.model.now c.args.other.now c.in-Err.unfit
    ((λ j. inputs_difference (sym c.as_slice.ensures j) (sym c.as_slice-2.ensures j)) ∙ c.in-Err.ensures)

pub returns-clause-fits : goal.returns-clause-fits
returns-clause-fits c =
    fits_after c.args.model.now c.args.other.now c.as_slice-3.result.now c.as_slice-4.result.now c.fit_outputs.result c.as_slice-3.ensures c.as_slice-4.ensures
    ((λ j. inputs_difference (sym c.as_slice.ensures j) (sym c.as_slice-2.ensures j)) ∙ c.in-Ok.ensures) c.fit_outputs.ensures

pub returns-clause-differs : goal.returns-clause-differs
returns-clause-differs c =
    unfit_after c.args.model.now c.args.other.now c.as_slice-3.result.now c.as_slice-4.result.now c.fit_outputs.result c.as_slice-3.ensures
    c.as_slice-4.ensures c.fit_outputs.ensures
