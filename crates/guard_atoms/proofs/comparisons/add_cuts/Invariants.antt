use Rattle.std.proofs.Common.{◌≡◌, ◌++◌, map, take}
use Rattle.guard_atoms.proofs.comparisons.add_cuts.Given as goal

abbrev pub invariant-loop-cut : goal.invariant-loop-cut
invariant-loop-cut l = map (λ comparison. comparison.now) l.found.items ≡ map (λ comparison. comparison.now) l.fn.found.items ++ take l.cut-index l.cuts
