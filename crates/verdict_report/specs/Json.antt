-- The JSON text of a verdict: one object without spaces, its keys in ascending order.
use Rattle.std.specs.Prelude.{ℕ, ℤ, List, [], ◌∷◌, ◌++◌, length, map, codes}
use Rattle.std.specs.Fmt.{decimal, signed_decimal}
use Rattle.std.specs.List.{concat, flat_map}
use Rattle.subject.specs.Suite.{SuiteParts, tests_of}
use Rattle.subject.specs.Tests.{failed_word}
use Rattle.test_subject.specs.Verdict.{expected_at}
use Rattle.test_subject.specs.declared.verdict.Verdict.{Verdict}
use Rattle.test_subject.specs.declared.verdict.Verdict.TheVariants.{Pass, Fail}

-- texts with a comma between them
abbrev pub with_commas : List (List ℕ) → List ℕ
with_commas [] = []
with_commas (text ∷ texts) = text ++ flat_map (λ more. codes "," ++ more) texts

-- numbers as an array
abbrev pub numbers_json : List ℤ → List ℕ
numbers_json numbers = codes "[" ++ (with_commas (map signed_decimal numbers) ++ codes "]")

-- vectors as an array of arrays
abbrev pub vectors_json : List (List ℤ) → List ℕ
vectors_json vectors = codes "[" ++ (with_commas (map numbers_json vectors) ++ codes "]")

-- the suite's bound, its number of states and its number of tests; of a failure also the reply that was expected and
-- that which was given, the step and the test, counted from 1, and the inputs up to the step
abbrev pub json_object : SuiteParts → Verdict → List ℕ
json_object suite Pass = concat (codes "{\"bound\":" ∷ decimal suite.bound
    ∷ codes ",\"states\":" ∷ decimal suite.states
    ∷ codes ",\"tests\":" ∷ decimal (length suite.tests)
    ∷ codes ",\"verdict\":\"pass\"}" ∷ [])
json_object suite (Fail test step given) = concat (codes "{\"bound\":" ∷ decimal suite.bound
    ∷ codes ",\"expected\":" ∷ numbers_json (expected_at (tests_of suite) test step)
    ∷ codes ",\"got\":" ∷ numbers_json given
    ∷ codes ",\"states\":" ∷ decimal suite.states
    ∷ codes ",\"step\":" ∷ decimal step
    ∷ codes ",\"test\":" ∷ decimal test
    ∷ codes ",\"tests\":" ∷ decimal (length suite.tests)
    ∷ codes ",\"verdict\":\"fail\",\"word\":"
    ∷ vectors_json (failed_word (tests_of suite) (record { test = test; step = step; given = given }))
    ∷ codes "}" ∷ [])

-- the object and a line feed
abbrev pub json_text : SuiteParts → Verdict → List ℕ
json_text suite verdict = json_object suite verdict ++ codes "\n"
