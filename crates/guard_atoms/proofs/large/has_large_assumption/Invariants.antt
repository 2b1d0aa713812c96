use Rattle.std.proofs.Common.{◌≡◌, false, take}
use Rattle.std.specs.List.{list_any}
use Rattle.guard_atoms.specs.Atoms.{is_large}
use Rattle.guard_atoms.proofs.large.has_large_assumption.Given as goal

abbrev pub invariant-loop-assumption : goal.invariant-loop-assumption
invariant-loop-assumption l = list_any is_large (take l.assumption-index l.assumed) ≡ false
