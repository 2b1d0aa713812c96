-- Suites whose text can be read back.
use Rattle.std.specs.Prelude.{ℕ, ◌<◌, ◌≤◌, ◌≡◌, List, ◌++◌, length, map, All, AllPairs, Contains}
use Rattle.lin_form.specs.declared.input.Input.{Input}
use Rattle.lin_form.specs.declared.signature.Signature.{Signature}
use Rattle.lin_form.specs.Name.{IsName, reserved_words}
use Rattle.lin_form.specs.Range.{AreWithin}
use Rattle.strict_lines.specs.Numbers.{most}
use Rattle.subject.specs.Suite.{SuiteParts, Test}
use Rattle.suite_model.specs.Suite.{IsSuite}

-- the names of the inputs and then of the outputs
abbrev pub names_of : Signature → List (List ℕ)
names_of signature = map (λ (i : Input). i.name) signature.inputs ++ signature.outputs

-- names that are no reserved words, each once
pub record AreFreeNames (names : List (List ℕ)) : Type 0 where
  pub named : All IsName names
  pub free : All (λ name. ¬ Contains reserved_words name) names
  pub different : AllPairs (λ a b. ¬ (a ≡ b)) names

-- the suite keeps its rules, and what is said of its parts is within what a text may say
pub record IsPrintable (s : SuiteParts) : Type 0 where
  pub rules : IsSuite s
  pub names : AreFreeNames (names_of s.signature)
  pub some_state : 1 ≤ s.states
  pub up_to_bound : s.states ≤ s.bound
  pub bound : s.bound ≤ 1024
  pub some_class : 0 < length s.classes
  pub few_classes : length s.classes ≤ 4096
  pub cover : length s.cover ≡ s.states
  pub some_mark : 0 < length s.marks
  pub some_test : 0 < length s.tests
  pub few_tests : length s.tests ≤ most
  pub replies : All (λ (t : Test). All (AreWithin most) t.replies) s.tests
