-- A plan stands for its chart, and no cuts for an empty list.
use Rattle.std.proofs.Common.{◌≡◌, List, [], Result, sym, subst}
use Rattle.lin_form.specs.declared.form.Comparison.{Comparison}
use Rattle.input_classes.specs.Partition.{Partition}
use Rattle.chart_model.specs.declared.chart.Chart.{Chart}
use Rattle.command_stages.specs.declared.stop.Stop.{Stop}
use Rattle.command_stages.specs.Stage.{Makes}
use Rattle.class_stages.specs.Classes.{ClassesOver, IsChartPartition}
use Rattle.suite_making.specs.declared.making.LeastSuite.{LeastSuite}
use Rattle.suite_stages.specs.Suites.{LeastSuiteOver}

pub uncut : {result : Result Partition Stop} (chart : Chart) (cuts : List Comparison) → cuts ≡ [] → Makes (ClassesOver 1 chart cuts) result → Makes (ClassesOver 1 chart []) result
uncut {result} chart cuts e h = subst (λ (x : List Comparison). Makes (ClassesOver 1 chart x) result) e h

pub parted : (plan chart : Chart) (cuts : List Comparison) (r : Partition) → plan ≡ chart → IsChartPartition chart cuts r → (some : List Comparison) × IsChartPartition plan some r
parted plan chart cuts r e h = (cuts, subst (λ (x : Chart). IsChartPartition x cuts r) (sym e) h)

pub leasted : {result : Result LeastSuite Stop} (plan chart : Chart) (r : Partition) → plan ≡ chart → Makes (LeastSuiteOver plan r) result → Makes (LeastSuiteOver chart r) result
leasted {result} plan chart r e h = subst (λ (x : Chart). Makes (LeastSuiteOver x r) result) e h
