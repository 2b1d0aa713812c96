-- What `gen` comes to: the suite of a number's chart, the verdict by it on another's, and the text that sums them up.
use Rattle.std.specs.Prelude.{◌≡◌, ℕ, ◌%◌, true, List, [], ◌++◌, length, sum_by, codes}
use Rattle.std.specs.Fmt.{decimal}
use Rattle.subject.specs.Suite.{SuiteParts, Test}
use Rattle.chart_gen.specs.Generated.{IsGenerated}
use Rattle.command_stages.specs.Stage.{Stage, Then, Is, Printed, Prints}
use Rattle.class_stages.specs.Classes.{ClassesOver}
use Rattle.suite_stages.specs.Suites.{LeastSuiteOver}
use Rattle.run_stages.specs.declared.implementation.Implementation.TheVariants.{Chart as OfChart}
use Rattle.judge_stages.specs.Verdicts.{Judgement, JudgeBy, verdict_lines}

-- how many letters the tests have
abbrev pub steps_in : List Test → ℕ
steps_in tests = sum_by (λ (test : Test). length test.letters) tests

-- the line of a word and a number
abbrev pub counted : List ℕ → ℕ → List ℕ
counted word number = word ++ codes " " ++ decimal number ++ codes "\n"

-- the number, how many classes and configurations the chart has, and how many states, tests and steps its suite
abbrev pub count_lines : ℕ → ℕ → SuiteParts → List ℕ
count_lines number configurations suite = counted (codes "number") number
    ++ counted (codes "classes") (length suite.classes) ++ counted (codes "configurations") configurations
    ++ counted (codes "states") suite.states ++ counted (codes "bound") suite.bound
    ++ counted (codes "tests") (length suite.tests) ++ counted (codes "steps") (steps_in suite.tests)

-- and the verdict
abbrev pub summary_text : ℕ → ℕ → Judgement → List ℕ
summary_text number configurations judged =
    count_lines number configurations judged.suite ++ verdict_lines judged.suite judged.verdict

-- the chart of the number, its classes without cuts, its suite for the least bound, and the verdict by that suite on the
-- chart of the number's remainder by 38
abbrev pub SummaryOf : ℕ → Stage Printed
SummaryOf number = Then (Is (IsGenerated number)) (λ chart. Then (ClassesOver 1 chart []) (λ partition.
    Then (LeastSuiteOver chart partition) (λ least. Then (Is (IsGenerated (number % 38))) (λ other.
    Then (JudgeBy least.suite (OfChart other)) (λ judged.
    Prints true (summary_text number least.configurations judged))))))
