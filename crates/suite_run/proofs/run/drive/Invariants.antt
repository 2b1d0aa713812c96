use Rattle.subject.specs.Suite.{tests_of}
use Rattle.suite_model.specs.Scratch.{IsMadeFor}
use Rattle.test_subject.specs.Subject.{Keeps}
use Rattle.suite_run.specs.inside.Running.{HasPassed}
use Rattle.suite_run.proofs.run.drive.Given as goal

abbrev pub invariant-loop-test : goal.invariant-loop-test
invariant-loop-test g l = record {
  made : IsMadeFor l.suite l.scratch;
  keeps : Keeps (g.S.Subject.state l.fn.subject) (g.S.Subject.state l.subject);
  follows : g.S.Subject.follows l.fn.subject l.subject;
  passed : HasPassed (g.S.Subject.state l.fn.subject) (g.S.Subject.state l.subject) (tests_of l.suite) l.test;
}
