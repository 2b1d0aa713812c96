use Rattle.std.proofs.Common.{drop}
use Rattle.std.specs.Prelude.{flat_map}
use Rattle.guard_atoms.specs.inside.Adding.{atoms_with}
use Rattle.guard_atoms.proofs.Additions.{IsAdding}
use Rattle.guard_atoms.proofs.adding.add_pairs.Given as goal

abbrev pub invariant-loop-constant : goal.invariant-loop-constant
invariant-loop-constant l = IsAdding l.fn.found (flat_map (atoms_with l.relation l.direction) l.constants) l.found (flat_map (atoms_with l.relation l.direction) (drop l.constant-index l.constants))
