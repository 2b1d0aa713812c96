use Rattle.linear_refuter.specs.inside.Ends.{IsShrunk}
use Rattle.linear_refuter.proofs.tightening.narrowed.Given as goal

abbrev pub invariant-loop-variable : goal.invariant-loop-variable
invariant-loop-variable l = IsShrunk l.literal l.part l.tight
