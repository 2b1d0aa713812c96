-- What a scripted subject is seen as.
use Rattle.std.specs.Prelude.{ℕ, ℤ, List, [], Some, None}
use Rattle.test_subject.specs.Subject.{SubjectState}

-- the replies that are left, the numbers of the calls that fail, and the counts of its calls and its faults
pub record Script : Type 0 where
  pub coming : List (List ℤ)
  pub bad : List ℕ
  pub calls : ℕ
  pub faults : ℕ

-- as a subject it tells the replies that come, and no plan and nothing of what was sent
abbrev pub state_of_script : Script → SubjectState
state_of_script script = record {
  plan = None;
  here = λ w. [];
  coming = Some (script.coming);
  sent = None;
  faults = script.faults;
}
