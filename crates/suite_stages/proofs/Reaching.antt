-- The configurations that a chart reaches over its box are those that it reaches on the witnesses.
use Rattle.std.proofs.Common.{◌≡◌, ℕ, ℤ, List, [], sym, ◌∙◌}
use Rattle.std.proofs.lemmas.List.Elements.{All-nil}
use Rattle.lin_form.specs.Atom.{IsAsSaid}
use Rattle.lin_form.specs.declared.form.Comparison.{Comparison}
use Rattle.input_classes.specs.Partition.{Partition, witnesses}
use Rattle.input_classes.specs.VectorSet.{IsIn, Members, box_of}
use Rattle.subject.specs.Domain.{box}
use Rattle.subject.specs.Meaning.{IsReached}
use Rattle.subject.proofs.CallerLemmas.{reached_more}
use Rattle.chart_model.specs.declared.chart.Chart.{Chart}
use Rattle.chart_meaning.specs.Configuration.{Configuration}
use Rattle.chart_meaning.specs.IsConfiguration.{IsConfiguration}
use Rattle.chart_meaning.specs.Plan.{plan_of_chart}
use Rattle.chart_meaning.specs.Step.{next_of}
use Rattle.guard_atoms.proofs.Agreeing.{next_of-patterns}
use Rattle.concretise.proofs.Whole.{covers_box}
use Rattle.abstract_machine.specs.Reached.{MembersAdvanceAlike, ReachesExactly}
use Rattle.abstract_machine.proofs.Lifted.{all_from_witnesses}
use Rattle.class_stages.specs.Classes.{IsChartPartition}

module _ (chart : Chart) (cuts : List Comparison) (r : Partition) (is : IsChartPartition chart cuts r) (go_on : (c : Configuration) → IsReached (plan_of_chart chart) c → IsConfiguration chart c) where
  unassumed : (x : List ℤ) → IsIn (box (plan_of_chart chart) r) x → IsIn (box_of chart.signature []) x
  unassumed x h = record { inside = h.inside; said = All-nil (λ literal. IsAsSaid literal x) }

  advance_alike : MembersAdvanceAlike (box (plan_of_chart chart) r) r (plan_of_chart chart)
  advance_alike t reached c there x y in_x in_y =
      let m = plan_of_chart chart in
      let same : next_of chart t x ≡ next_of chart t y = next_of-patterns chart cuts r.atoms t x y is.atoms (in_x.1 ∙ sym in_y.1) (go_on t (reached_more (box m r) m (box_of chart.signature []) t unassumed reached)) in
      (same, λ i. (same i).outputs)

  pub reached_all : (n : ℕ) → ReachesExactly n (Members (witnesses r)) (plan_of_chart chart) → ReachesExactly n (box (plan_of_chart chart) r) (plan_of_chart chart)
  reached_all n h =
      let m = plan_of_chart chart in
      record { states = h.states; are_all = all_from_witnesses (box m r) r m (covers_box m r is.exact is.ranges) advance_alike h.states h.are_all; number = h.number }
