use Rattle.std.proofs.Common.{refl}
use Rattle.test_subject.proofs.plan_subject.PlanSubjectSubject.step.Goals as goal

pub advance-step-requires-clause-fits : goal.advance-step-requires-clause-fits
advance-step-requires-clause-fits g c = c.requires _ refl

pub invariant_of-self : goal.invariant_of-self
invariant_of-self g c = record {
  reached = rw c.advance-step.ensures.state (c.reaching.ensures.in_ranges c.args.self.now.state c.args.input.now c.args.self.now.reached (c.requires _ refl));
}
