-- A suite and the verdict by it on an implementation, as stages, and how a verdict is printed.
use Rattle.std.specs.Prelude.{◌≡◌, ℕ, Bool, true, false, List}
use Rattle.input_classes.specs.Partition.{Partition}
use Rattle.chart_model.specs.declared.chart.Chart.{Chart}
use Rattle.subject.specs.Suite.{SuiteParts, tests_of}
use Rattle.test_subject.specs.declared.verdict.Verdict.{Verdict}
use Rattle.test_subject.specs.declared.verdict.Verdict.TheVariants.{Pass, Fail}
use Rattle.verdict_report.specs.Text.{verdict_text}
use Rattle.command_stages.specs.Stage.{Stage, Then, Is, Printed}
use Rattle.command_stages.specs.Texts.{ChartAt}
use Rattle.class_stages.specs.Cutting.{CutsAt}
use Rattle.class_stages.specs.Classes.{ClassesOver}
use Rattle.suite_stages.specs.Suites.{SuiteOver}
use Rattle.run_stages.specs.declared.implementation.Implementation.{Implementation}
use Rattle.run_stages.specs.Implementations.{signature_of}
use Rattle.run_stages.specs.Stages.{ImplementationAt, FitsOver, VerdictOver}

-- a suite and the verdict by it
pub record Judgement : Type 0 where
  pub suite : SuiteParts
  pub verdict : Verdict

-- the verdict by this suite on an implementation
abbrev pub JudgeBy : SuiteParts → Implementation → Stage Judgement
JudgeBy suite implementation = Then (VerdictOver suite implementation) (λ verdict.
    Is (λ judged. judged ≡ record { suite = suite; verdict = verdict }))

-- the suite of the chart for the bound, and the verdict by it on the implementation
abbrev pub JudgeOver : ℕ → Chart → Partition → Implementation → Stage Judgement
JudgeOver bound chart partition implementation =
    Then (SuiteOver bound chart partition) (λ suite. JudgeBy suite implementation)

-- the chart, the cuts where a text of cuts is named, the implementation and its fit, the classes, and the verdict
abbrev pub JudgeAt : ℕ → Bool → Stage Judgement
JudgeAt bound named = Then (ChartAt 1) (λ chart. Then (CutsAt named 3 chart.signature) (λ cuts.
    Then (ImplementationAt 4) (λ implementation. Then (FitsOver 4 chart.signature (signature_of implementation)) (λ _.
    Then (ClassesOver 1 chart cuts) (λ partition. JudgeOver bound chart partition implementation)))))

-- every reply is the expected one
abbrev pub is_pass : Verdict → Bool
is_pass Pass = true
is_pass (Fail test step given) = false

-- how the verdict by a suite is printed
abbrev pub Printing : Type 0
Printing = SuiteParts → Verdict → List ℕ

-- in lines
abbrev pub verdict_lines : Printing
verdict_lines suite verdict = verdict_text (tests_of suite) verdict

-- the text of a verdict, which passes where the verdict does
abbrev pub printed_verdict : Printing → Judgement → Printed
printed_verdict printing judged =
    record { passes = is_pass judged.verdict; text = printing judged.suite judged.verdict }

abbrev pub PrintsVerdict : Printing → Judgement → Stage Printed
PrintsVerdict printing judged = Is (λ printed. printed ≡ printed_verdict printing judged)
