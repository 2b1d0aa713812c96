use Rattle.std.proofs.Common.{drop, map}
use Rattle.std.specs.Prelude.{flat_map}
use Rattle.guard_atoms.specs.Atoms.{atoms_over}
use Rattle.guard_atoms.proofs.Additions.{IsAdding}
use Rattle.guard_atoms.proofs.adding.add_comparisons.Given as goal

abbrev pub invariant-loop-comparison : goal.invariant-loop-comparison
invariant-loop-comparison l = IsAdding l.fn.found (flat_map (atoms_over l.memories) (map (λ comparison. comparison.now) l.comparisons)) l.found (flat_map (atoms_over l.memories) (drop l.comparison-index (map (λ comparison. comparison.now) l.comparisons)))
