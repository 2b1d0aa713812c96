-- A plan stands for its chart.
use Rattle.std.proofs.Common.{◌≡◌, ℕ, List, Result, sym, subst}
use Rattle.lin_form.specs.declared.form.Comparison.{Comparison}
use Rattle.input_classes.specs.Partition.{Partition}
use Rattle.subject.specs.Suite.{SuiteParts}
use Rattle.chart_model.specs.declared.chart.Chart.{Chart}
use Rattle.command_stages.specs.declared.stop.Stop.{Stop}
use Rattle.command_stages.specs.Stage.{Makes}
use Rattle.class_stages.specs.Classes.{IsChartPartition}
use Rattle.suite_stages.specs.Suites.{SuiteOver}

pub parted : (plan chart : Chart) (cuts : List Comparison) (r : Partition) → plan ≡ chart → IsChartPartition chart cuts r → (some : List Comparison) × IsChartPartition plan some r
parted plan chart cuts r e h = (cuts, subst (λ (x : Chart). IsChartPartition x cuts r) (sym e) h)

pub suited : {result : Result SuiteParts Stop} (bound : ℕ) (plan chart : Chart) (r : Partition) → plan ≡ chart → Makes (SuiteOver bound plan r) result → Makes (SuiteOver bound chart r) result
suited {result} bound plan chart r e h = subst (λ (x : Chart). Makes (SuiteOver bound x r) result) e h
