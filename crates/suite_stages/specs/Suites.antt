-- The suite of a chart's plan, a partition and a bound or the least one, and why there is none.
use Rattle.std.specs.Prelude.{ℕ, ◌<◌, length}
use Rattle.input_classes.specs.Partition.{Partition}
use Rattle.subject.specs.Alike.{HasRank}
use Rattle.abstract_machine.specs.Reached.{ReachesExactly}
use Rattle.subject.specs.Domain.{box}
use Rattle.subject.specs.Shape.{HasShape}
use Rattle.subject.specs.Suite.{SuiteParts}
use Rattle.chart_model.specs.declared.chart.Chart.{Chart}
use Rattle.chart_meaning.specs.Plan.{plan_of_chart}
use Rattle.suite_build.specs.Steps.{steps}
use Rattle.suite_making.specs.Making.{HasTooManyStates}
use Rattle.suite_making.specs.declared.making.LeastSuite.{LeastSuite}
use Rattle.command_stages.specs.declared.stop.Quantity.TheVariants.{Configurations, Steps}
use Rattle.command_stages.specs.declared.stop.Refusal.TheVariants.{Beyond, BoundBelow}
use Rattle.command_stages.specs.Stage.{Stage, Then, Is, Unless}

-- at most 1,024 configurations are reached on the witnesses, the bound is at least the rank, there are at most
-- 20,000,000 steps, and then it is the suite of the W-method
abbrev pub SuiteOver : ℕ → Chart → Partition → Stage SuiteParts
SuiteOver bound chart r = let model = plan_of_chart chart in
    Then (Unless (HasTooManyStates model r) (Beyond Configurations)) (λ _.
    Then (Is (HasRank (box model r) model)) (λ states.
    Then (Unless (bound < states) (BoundBelow bound states)) (λ _.
    Then (Unless (20000000 < steps states (length r.classes) bound) (Beyond Steps)) (λ _.
    Is (HasShape model r bound)))))

-- the suite of the W-method for the least bound, the number of states, and how many configurations are reached over the box
pub record IsLeastSuite (chart : Chart) (r : Partition) (least : LeastSuite) : Type 0 where
  pub shape : HasShape (plan_of_chart chart) r least.suite.states least.suite
  pub configurations : ReachesExactly least.configurations (box (plan_of_chart chart) r) (plan_of_chart chart)

-- the same stage for the least bound
abbrev pub LeastSuiteOver : Chart → Partition → Stage LeastSuite
LeastSuiteOver chart r = let model = plan_of_chart chart in
    Then (Unless (HasTooManyStates model r) (Beyond Configurations)) (λ _.
    Then (Is (HasRank (box model r) model)) (λ states.
    Then (Unless (20000000 < steps states (length r.classes) states) (Beyond Steps)) (λ _.
    Is (IsLeastSuite chart r))))
