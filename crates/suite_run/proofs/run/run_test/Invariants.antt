use Rattle.std.proofs.Common.{◌≡◌, slice_get, Some}
use Rattle.subject.specs.Suite.{Test, test_case}
use Rattle.test_subject.specs.Subject.{Keeps}
use Rattle.suite_run.specs.inside.Running.{IsAtStep}
use Rattle.suite_run.proofs.run.run_test.Given as goal

abbrev pub invariant-loop-step : goal.invariant-loop-step
invariant-loop-step g l = record {
  keeps : Keeps (g.S.Subject.state l.fn.subject) (g.S.Subject.state l.subject);
  follows : g.S.Subject.follows l.fn.subject l.subject;
  at : (t : Test) → slice_get l.suite.tests l.test ≡ Some t → IsAtStep (g.S.Subject.state l.fn.subject) (g.S.Subject.state l.subject) (test_case l.suite.classes t) l.step;
}
