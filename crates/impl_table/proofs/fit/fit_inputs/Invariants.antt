use Rattle.std.proofs.Common.{◌≡◌, drop}
use Rattle.impl_table.specs.Fitting.{first_input}
use Rattle.impl_table.proofs.fit.fit_inputs.Given as goal

abbrev pub invariant-inputs : goal.invariant-inputs
invariant-inputs l = record { rest : first_input l.number (drop l.number l.model) (drop l.number l.other) ≡ first_input 0 l.model l.other }
