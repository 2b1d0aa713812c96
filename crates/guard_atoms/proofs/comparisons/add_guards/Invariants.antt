use Rattle.std.proofs.Common.{◌≡◌, ◌++◌, map, take}
use Rattle.std.specs.Prelude.{flat_map}
use Rattle.guard_atoms.specs.Atoms.{comparisons_on}
use Rattle.guard_atoms.proofs.comparisons.add_guards.Given as goal

abbrev pub invariant-loop-transition : goal.invariant-loop-transition
invariant-loop-transition l = map (λ comparison. comparison.now) l.found.items ≡ map (λ comparison. comparison.now) l.fn.found.items ++ flat_map comparisons_on (take l.transition-index l.transitions)
