use Rattle.class_split.specs.inside.Node.{AreTruths}
use Rattle.class_split.proofs.class_number.truths_of.Given as goal

abbrev pub invariant-loop-index : goal.invariant-loop-index
invariant-loop-index l = AreTruths l.index l.atoms l.vector l.truths
