use Rattle.std.proofs.Common.{length, take}
use Rattle.guard_atoms.specs.inside.Claims.{AreClaims}
use Rattle.guard_atoms.proofs.assumptions.assumed.Given as goal

abbrev pub invariant-loop-assumption : goal.invariant-loop-assumption
invariant-loop-assumption l = AreClaims (length l.chart.signature.inputs) (take l.assumption-index l.assumptions) l.literals.items
