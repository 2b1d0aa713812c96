use Rattle.std.proofs.Common.{◌≡◌, ◌<◌, length, map, slice_get, Some}
use Rattle.input_classes.specs.declared.class.Class.{Class}
use Rattle.abstract_machine.specs.inside.Branches.{AreStepsOn}
use Rattle.abstract_machine.specs.inside.Exploring.{IsExploring}
use Rattle.abstract_machine.proofs.exploring.expand.Given as goal

abbrev pub invariant-loop-class : goal.invariant-loop-class
invariant-loop-class g l = record {
  exploring : IsExploring (map (λ (c : Class). c.witness) l.classes) (g.P.Plan.plan l.plan) l.states.keys l.replies.keys l.rows l.at l.class-index;
  inside : l.at < length l.states.keys;
  here : slice_get l.states.keys l.at ≡ Some l.state;
  noted : AreStepsOn (g.P.Plan.plan l.plan) (g.P.Plan.branches l.plan) l.states.keys l.replies.keys l.state l.branches;
}
