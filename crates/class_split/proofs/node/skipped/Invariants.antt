use Rattle.class_split.specs.inside.Node.{AreEndsBefore, IsSkipped}
use Rattle.class_split.proofs.node.skipped.Given as goal

abbrev pub invariant-loop-index : goal.invariant-loop-index
invariant-loop-index l = IsSkipped l.atoms l.first l.node l.index l.pattern × AreEndsBefore l.atoms l.first l.index l.node.region l.ends
