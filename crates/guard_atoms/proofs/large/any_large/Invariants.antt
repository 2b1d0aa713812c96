use Rattle.std.proofs.Common.{◌≡◌, false, map, take}
use Rattle.std.specs.List.{list_any}
use Rattle.guard_atoms.specs.Atoms.{is_large}
use Rattle.guard_atoms.proofs.large.any_large.Given as goal

abbrev pub invariant-loop-comparison : goal.invariant-loop-comparison
invariant-loop-comparison l = list_any is_large (take l.comparison-index (map (λ comparison. comparison.now) l.comparisons)) ≡ false
