-- What the summary of a number shows.
use Rattle.std.specs.Prelude.{◌≡◌, ℕ, ◌%◌, List, []}
use Rattle.input_classes.specs.Partition.{Partition}
use Rattle.chart_model.specs.declared.chart.Chart.{Chart}
use Rattle.chart_meaning.specs.Plan.{plan_of_chart}
use Rattle.chart_gen.specs.Generated.{IsGenerated}
use Rattle.abstract_machine.specs.Reached.{ReachesExactly}
use Rattle.subject.specs.Domain.{box}
use Rattle.subject.specs.Meaning.{answer}
use Rattle.subject.specs.Shape.{HasShape}
use Rattle.subject.specs.Suite.{SuiteParts, tests_of}
use Rattle.test_subject.specs.declared.verdict.Verdict.{Verdict}
use Rattle.test_subject.specs.Verdict.{IsVerdict}
use Rattle.class_stages.specs.Classes.{IsChartPartition}
use Rattle.run_stages.specs.declared.implementation.Implementation.TheVariants.{Chart as OfChart}
use Rattle.gen_stages.specs.Summary.{summary_text}
use Rattle.command_meaning.specs.Runs.{Shows}

-- the text sums up the chart of the number, its classes without cuts, how many configurations it reaches over its box, its
-- suite for the least bound, and the verdict by that suite on the chart of the number's remainder by 38; and what the
-- verdict shows
pub record IsSummaryOf (number : ℕ) (text : List ℕ) : Type 0 where
  pub chart : Chart
  pub is_chart : IsGenerated number chart
  pub partition : Partition
  pub is_partition : IsChartPartition chart [] partition
  pub configurations : ℕ
  pub reached : ReachesExactly configurations (box (plan_of_chart chart) partition) (plan_of_chart chart)
  pub suite : SuiteParts
  pub shape : HasShape (plan_of_chart chart) partition suite.states suite
  pub other : Chart
  pub is_other : IsGenerated (number % 38) other
  pub verdict : Verdict
  pub is_verdict : IsVerdict (answer (plan_of_chart other)) (tests_of suite) verdict
  pub same_text : text ≡ summary_text number configurations (record { suite = suite; verdict = verdict })
  pub shows : Shows chart partition suite.states (tests_of suite) (OfChart other) verdict
