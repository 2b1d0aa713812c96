use Rattle.std.proofs.Common.{◌≡◌, ◌≤◌, length, slice_get, Some}
use Rattle.subject.specs.Suite.{Test}
use Rattle.suite_text.specs.inside.Steps.{HaveSteps}
use Rattle.suite_text.proofs.write.push_steps.Given as goal

abbrev pub invariant-loop-step : goal.invariant-loop-step
invariant-loop-step l = record {
  upto : l.step ≤ l.fn.count;
  letters : l.scratch.letters ≡ l.fn.scratch.letters;
  room : l.scratch.room ≡ l.fn.scratch.room;
  size : length l.scratch.ends ≡ length l.fn.scratch.ends;
  steps : (t : Test) → slice_get l.suite.tests l.fn.test ≡ Some t → HaveSteps l.suite.classes t l.step l.scratch;
}
