-- What a run of a suite on an implementation shows.
use Rattle.std.specs.Prelude.{◌≡◌, ℕ, ℤ, Bool, List}
use Rattle.test_world.specs.Shelf.{Holds}
use Rattle.input_classes.specs.Partition.{Partition}
use Rattle.input_classes.specs.VectorSet.{VectorSet, IsWordOf}
use Rattle.chart_model.specs.declared.chart.Chart.{Chart}
use Rattle.chart_meaning.specs.Plan.{plan_of_chart}
use Rattle.impl_table.specs.Plan.{plan_of_table}
use Rattle.subject.specs.Alike.{Equal}
use Rattle.subject.specs.Domain.{Inside, IsFitting, box}
use Rattle.subject.specs.Meaning.{answer}
use Rattle.subject.specs.Shape.{HasShape}
use Rattle.subject.specs.Suite.{SuiteParts, tests_of}
use Rattle.subject.specs.Tests.{Failure, TestCase, Passes, PartAtLast, failed_word}
use Rattle.test_subject.specs.declared.verdict.Verdict.{Verdict}
use Rattle.test_subject.specs.declared.verdict.Verdict.TheVariants.{Pass, Fail}
use Rattle.test_subject.specs.Verdict.{IsVerdict}
use Rattle.command_stages.specs.Report.{word_at}
use Rattle.command_stages.specs.Stage.{Given}
use Rattle.run_stages.specs.declared.implementation.Implementation.{Implementation}
use Rattle.run_stages.specs.declared.implementation.Implementation.TheVariants.{Chart as OfChart, Table as OfTable}
use Rattle.run_stages.specs.Implementations.{ReadsImplementation, answers_of, signature_of}
use Rattle.judge_stages.specs.Verdicts.{Printing, is_pass}
use Rattle.command_meaning.specs.Inputs.{AreInputsOf}

-- the text held under the word with this number reads as the implementation
abbrev pub IsImplementationAt : ℕ → Given → Implementation → Type 0
IsImplementationAt number given implementation =
    (text : List ℕ) × Holds given.held (word_at given.words number) text × ReadsImplementation text implementation

-- the implementation lies inside the fault domain of a chart's plan with the partition and the bound
abbrev pub IsInside : Chart → Partition → ℕ → Implementation → Type 0
IsInside chart partition bound (OfChart other) = Inside (plan_of_chart chart) partition bound (plan_of_chart other)
IsInside chart partition bound (OfTable table) = Inside (plan_of_chart chart) partition bound (plan_of_table table)

-- the implementation answers every word of the set as the chart does
abbrev pub IsEqual : VectorSet → Implementation → Chart → Type 0
IsEqual s (OfChart other) chart = Equal s (plan_of_chart other) (plan_of_chart chart)
IsEqual s (OfTable table) chart = Equal s (plan_of_table table) (plan_of_chart chart)

-- a word of the set to which the implementation and the chart answer differently, at its last vector and at no earlier
-- one; and so they are not equal
pub record ShowsDifference (s : VectorSet) (chart : Chart) (implementation : Implementation)
    (word : List (List ℤ)) : Type 0 where
  pub is_word : IsWordOf s word
  pub parts : PartAtLast (answers_of implementation) (answer (plan_of_chart chart)) word
  pub unequal : IsEqual s implementation chart → ⊥

-- what a verdict shows: that every test is answered as expected, and then, inside the fault domain, every word of the box
-- as by the chart; or the word of the failure shows a difference
abbrev pub Shows : Chart → Partition → ℕ → List TestCase → Implementation → Verdict → Type 0
Shows chart r bound tests implementation Pass = Passes (answers_of implementation) tests
    × (IsInside chart r bound implementation → IsEqual (box (plan_of_chart chart) r) implementation chart)
Shows chart r bound tests implementation (Fail test step given) =
    let failure : Failure = record { test = test; step = step; given = given } in
    ShowsDifference (box (plan_of_chart chart) r) chart implementation (failed_word tests failure)

-- the text is that of the verdict, printed so, on the held implementation, whose signature fits, by the suite with the shape for the
-- held chart's plan, the classes of the chart and the held cuts, and the bound; and what the verdict shows
pub record IsRunOf (printing : Printing) (bound : ℕ) (named : Bool) (given : Given) (passes : Bool)
    (text : List ℕ) : Type 0 where
  pub inputs : AreInputsOf 3 named given
  pub implementation : Implementation
  pub is_implementation : IsImplementationAt 4 given implementation
  pub fits : IsFitting inputs.chart.signature (signature_of implementation)
  pub suite : SuiteParts
  pub shape : HasShape (plan_of_chart inputs.chart) inputs.partition bound suite
  pub verdict : Verdict
  pub is_verdict : IsVerdict (answers_of implementation) (tests_of suite) verdict
  pub same_text : text ≡ printing suite verdict
  pub same_passes : passes ≡ is_pass verdict
  pub shows : Shows inputs.chart inputs.partition bound (tests_of suite) implementation verdict
