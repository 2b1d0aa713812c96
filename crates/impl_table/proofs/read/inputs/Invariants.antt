use Rattle.std.proofs.Common.{◌≡◌, map, take}
use Rattle.chart_syntax.specs.Reading.{bounds_of_input, bounds_of_form}
use Rattle.impl_table.proofs.read.inputs.Given as goal

abbrev pub invariant-inputs : goal.invariant-inputs
invariant-inputs l = map bounds_of_input l.inputs.items ≡ map bounds_of_form (take l.form-index l.forms)
