use Rattle.std.proofs.Common.{take}
use Rattle.std.specs.List.{AllZip}
use Rattle.class_split.specs.inside.Node.{IsClassOf}
use Rattle.class_split.proofs.classes.classes_of.Given as goal

abbrev pub invariant-loop-index : goal.invariant-loop-index
invariant-loop-index l = AllZip (IsClassOf l.atoms) (take l.index l.leaves) l.classes.items
