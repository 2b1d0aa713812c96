use Rattle.std.proofs.Common.{◌≡◌, ◌<◌, ◌≤◌, length}
use Rattle.plan_replies.specs.inside.Steps.{AreSteps}
use Rattle.plan_replies.specs.inside.Numbers.{AreStepNumbers}
use Rattle.plan_replies.proofs.walk.replies_of.Given as goal

abbrev pub invariant-loop-number : goal.invariant-loop-number
invariant-loop-number g l =
    record {
      steps : AreSteps (g.P.Plan.plan l.plan) l.classes l.steps.states.keys l.steps.met.items l.steps.nexts.items l.steps.replies.items;
      numbers : AreStepNumbers (g.P.Plan.plan l.plan) l.classes l.pool.words l.number l.steps.states.keys l.steps.nexts.items l.steps.replies.items l.numbers.items;
      some : 0 < l.number;
      count : l.count ≡ length l.pool.words;
      upto : l.number ≤ l.count;
    }
