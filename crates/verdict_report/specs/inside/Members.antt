-- A verdict as JSON data.
use Rattle.std.specs.Prelude.{ℕ, ℤ, List, map, length, codes}
use Rattle.serde_json.specs.Data.{Data, member, no_members, array, number, object, string, unsigned}
use Rattle.serde_json.specs.Find.{of_integer}
use Rattle.serde_json.specs.View.{items_of}
use Rattle.subject.specs.Suite.{SuiteParts, tests_of}
use Rattle.subject.specs.Tests.{failed_word}
use Rattle.test_subject.specs.Verdict.{expected_at}
use Rattle.test_subject.specs.declared.verdict.Verdict.{Verdict}
use Rattle.test_subject.specs.declared.verdict.Verdict.TheVariants.{Pass, Fail}

abbrev pub numbers_data : List ℤ → Data
numbers_data numbers = array (items_of (map (λ z. number (of_integer z)) numbers))

abbrev pub vectors_data : List (List ℤ) → Data
vectors_data vectors = array (items_of (map numbers_data vectors))

abbrev pub failure_data : SuiteParts → ℕ → ℕ → Data → Data → Data → Data
failure_data suite test step expected got word = object (member (codes "bound") (number (unsigned suite.bound))
    (member (codes "expected") expected
    (member (codes "got") got
    (member (codes "states") (number (unsigned suite.states))
    (member (codes "step") (number (unsigned step))
    (member (codes "test") (number (unsigned test))
    (member (codes "tests") (number (unsigned (length suite.tests)))
    (member (codes "verdict") (string (codes "fail"))
    (member (codes "word") word no_members)))))))))

abbrev pub verdict_data : SuiteParts → Verdict → Data
verdict_data suite Pass = object (member (codes "bound") (number (unsigned suite.bound))
    (member (codes "states") (number (unsigned suite.states))
    (member (codes "tests") (number (unsigned (length suite.tests)))
    (member (codes "verdict") (string (codes "pass")) no_members))))
verdict_data suite (Fail test step given) = failure_data suite test step
    (numbers_data (expected_at (tests_of suite) test step)) (numbers_data given)
    (vectors_data (failed_word (tests_of suite) (record { test = test; step = step; given = given })))
