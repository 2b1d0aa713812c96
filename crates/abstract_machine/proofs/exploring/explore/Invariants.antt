use Rattle.std.proofs.Common.{◌-◌, map}
use Rattle.input_classes.specs.declared.class.Class.{Class}
use Rattle.abstract_machine.specs.inside.Exploring.{IsExploring}
use Rattle.abstract_machine.proofs.exploring.explore.Given as goal

abbrev pub invariant-loop-at : goal.invariant-loop-at
invariant-loop-at g l = IsExploring (map (λ (c : Class). c.witness) l.classes) (g.P.Plan.plan l.plan) l.states.keys l.replies.keys l.rows l.at 0

abbrev pub decreases-loop-at : goal.decreases-loop-at
decreases-loop-at g l = 1024 - l.at
