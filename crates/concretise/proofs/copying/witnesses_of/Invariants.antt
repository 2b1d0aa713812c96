use Rattle.std.proofs.Common.{◌≡◌, take, map}
use Rattle.input_classes.specs.declared.class.Class.{Class}
use Rattle.concretise.proofs.copying.witnesses_of.Given as goal

abbrev pub invariant-loop-class : goal.invariant-loop-class
invariant-loop-class l = l.vectors.items ≡ map (λ (c : Class). c.witness) (take l.class-index l.classes)
