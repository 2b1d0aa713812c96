use Rattle.std.proofs.Common.{arith}
use Rattle.run_stages.proofs.Fits.{input_number, output_number}
use Rattle.run_stages.proofs.fitting.place.Goals as goal

pub overflow_add-result : goal.overflow_add-result
overflow_add-result c = let h = input_number c.args.model.now c.args.other.now c.args.unfit c.in-Input.number c.in-Input.is c.requires in omega arith

pub overflow_add-result-in-Output : goal.overflow_add-result-in-Output
overflow_add-result-in-Output c = let h = output_number c.args.model.now c.args.other.now c.args.unfit c.in-Output.number c.in-Output.is c.requires in omega arith
