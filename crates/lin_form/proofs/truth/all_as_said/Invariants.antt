use Rattle.std.proofs.Common.{take}
use Rattle.lin_form.specs.Atom.{AreAsSaid}
use Rattle.lin_form.proofs.truth.all_as_said.Given as goal

abbrev pub invariant-loop-literal : goal.invariant-loop-literal
invariant-loop-literal l = AreAsSaid (take l.literal-index l.literals) l.vector
