use Rattle.std.proofs.Common.{◌≡◌, length, map, take, slice_get, Some}
use Rattle.serde_json.specs.View.{view}
use Rattle.subject.specs.Suite.{Test, in_vectors}
use Rattle.verdict_report.specs.inside.Members.{numbers_data}
use Rattle.verdict_report.proofs.json.inputs.Given as goal

abbrev pub invariant-loop-step : goal.invariant-loop-step
invariant-loop-step l = record {
  letters : (t : Test) → slice_get l.suite.tests l.test ≡ Some t → take (length t.letters) l.scratch.letters ≡ t.letters;
  values : (t : Test) → slice_get l.suite.tests l.test ≡ Some t → map view l.values.items ≡ map numbers_data (take l.step (take l.steps (in_vectors l.suite.classes t.letters)));
}
