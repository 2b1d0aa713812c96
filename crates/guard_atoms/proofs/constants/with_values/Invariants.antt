use Rattle.std.proofs.Common.{◌≡◌, take}
use Rattle.std.specs.Prelude.{flat_map}
use Rattle.guard_atoms.specs.inside.Adding.{sums_from}
use Rattle.guard_atoms.proofs.constants.with_values.Given as goal

abbrev pub invariant-loop-constant : goal.invariant-loop-constant
invariant-loop-constant l = l.sums.items ≡ flat_map (sums_from l.coefficient l.memory) (take l.constant-index l.constants)
