use Rattle.std.proofs.Common.{◌≡◌, ◌++◌}
use Rattle.guard_atoms.proofs.found.Found.into_atoms.Given as goal

abbrev pub invariant-loop-atom : goal.invariant-loop-atom
invariant-loop-atom l = l.list.items ++ l.atom-iterator ≡ l.initial.atom-iterator
