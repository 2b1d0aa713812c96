-- The suites that are printed for a chart.
use Rattle.std.specs.Prelude.{ℕ, ◌≤◌, List, length}
use Rattle.lin_form.specs.declared.form.Comparison.{Comparison}
use Rattle.input_classes.specs.Partition.{Partition}
use Rattle.chart_model.specs.declared.chart.Chart.{Chart}
use Rattle.chart_syntax.specs.Reading.{Reads}
use Rattle.chart_meaning.specs.Plan.{plan_of_chart}
use Rattle.subject.specs.Shape.{HasShape}
use Rattle.subject.specs.Suite.{SuiteParts}
use Rattle.suite_build.specs.Steps.{steps}
use Rattle.class_stages.specs.Classes.{IsBoxEmpty, HasMoreClasses, IsChartPartition}

-- the suite has the shape for a chart that some text reads as, its partition by cuts, and a bound, within the limits:
-- some vector, at most 4,096 classes, a bound of at most 1,024, and at most 20,000,000 steps
pub record IsPrintedFor (chart : Chart) (cuts : List Comparison) (r : Partition) (bound : ℕ)
    (s : SuiteParts) : Type 0 where
  pub text : List ℕ
  pub reads : Reads text chart
  pub partition : IsChartPartition chart cuts r
  pub some_vector : ¬ IsBoxEmpty chart
  pub few_classes : ¬ HasMoreClasses 4096 chart cuts
  pub bounded : bound ≤ 1024
  pub few_steps : steps s.states (length r.classes) bound ≤ 20000000
  pub shape : HasShape (plan_of_chart chart) r bound s
