use Rattle.std.proofs.Common.{◌≡◌, drop}
use Rattle.impl_table.specs.Fitting.{first_output}
use Rattle.impl_table.proofs.fit.fit_outputs.Given as goal

abbrev pub invariant-outputs : goal.invariant-outputs
invariant-outputs l = record { rest : first_output l.number (drop l.number l.model) (drop l.number l.other) ≡ first_output 0 l.model l.other }
