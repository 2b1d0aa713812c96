-- Why a suite is made, and why it is not.
use Rattle.std.proofs.Common.{ℕ, ◌<◌, ◌≤◌, List, Ok, Err, arith}
use Rattle.test_world.specs.Shelf.{ShelfState}
use Rattle.input_classes.specs.Partition.{Partition}
use Rattle.subject.specs.Shape.{HasShape}
use Rattle.subject.specs.Suite.{SuiteParts}
use Rattle.chart_model.specs.declared.chart.Chart.{Chart}
use Rattle.chart_meaning.specs.Plan.{plan_of_chart}
use Rattle.suite_making.specs.Making.{IsAllowed, IsRefused, IsLeastAllowed, IsLeastRefused}
use Rattle.suite_making.specs.declared.making.LeastSuite.{LeastSuite}
use Rattle.suite_making.specs.declared.error.MakeError.{MakeError}
use Rattle.suite_making.specs.declared.error.MakeError.TheVariants.{TooManyConfigurations, BoundBelow, TooManySteps, Memory}
use Rattle.command_stages.specs.Stage.{Made}
use Rattle.command_stages.proofs.Stages.{made_then, made_stop, made_is, made_unless, made_refusal, made_unknown}
use Rattle.suite_stages.specs.Suites.{SuiteOver, IsLeastSuite, LeastSuiteOver}
use Rattle.suite_stages.specs.inside.Stops.{stop_of_make}

not_below : (bound states : ℕ) → states ≤ bound → bound < states → ⊥
not_below bound states within below = omega (arith, within, below)

not_more : (most n : ℕ) → n ≤ most → most < n → ⊥
not_more most n few more = omega (arith, few, more)

-- there is no suite
pub unmade : (bound : ℕ) (chart : Chart) (r : Partition) {words : List (List ℕ)} {shelf : ShelfState} (e : MakeError) → IsRefused (plan_of_chart chart) r bound e → Made (SuiteOver bound chart r) words shelf shelf (Err (stop_of_make bound e))
unmade bound chart r TooManyConfigurations h = made_stop _ _ (made_refusal _ _ h)
unmade bound chart r (BoundBelow n) h = made_then _ _ (made_unless _ _ h.few) (made_then _ _ (made_is _ h.rank) (made_stop _ _ (made_refusal _ _ h.below)))
unmade bound chart r TooManySteps h =
    made_then _ _ (made_unless _ _ h.few) (made_then _ _ (made_is _ h.rank) (made_then _ _ (made_unless _ _ (not_below bound h.states h.within)) (made_stop _ _ (made_refusal _ _ h.many))))
unmade bound chart r Memory h = made_stop _ _ (made_unknown _ _)

-- there is one
pub made : (bound : ℕ) (chart : Chart) (r : Partition) {words : List (List ℕ)} {shelf : ShelfState} {s : SuiteParts} → IsAllowed (plan_of_chart chart) r bound → HasShape (plan_of_chart chart) r bound s → Made (SuiteOver bound chart r) words shelf shelf (Ok s)
made bound chart r h shape =
    made_then _ _ (made_unless _ _ h.few) (made_then _ _ (made_is _ h.rank) (made_then _ _ (made_unless _ _ (not_below bound h.states h.within)) (made_then _ _ (made_unless _ _ (not_more 20000000 _ h.few_steps)) (made_is _ shape))))

-- there is none for the least bound
pub least_unmade : (chart : Chart) (r : Partition) {words : List (List ℕ)} {shelf : ShelfState} (e : MakeError) → IsLeastRefused (plan_of_chart chart) r e → Made (LeastSuiteOver chart r) words shelf shelf (Err (stop_of_make 0 e))
least_unmade chart r TooManyConfigurations h = made_stop _ _ (made_refusal _ _ h)
least_unmade chart r (BoundBelow n) h = absurd h
least_unmade chart r TooManySteps h = made_then _ _ (made_unless _ _ h.few) (made_then _ _ (made_is _ h.rank) (made_stop _ _ (made_refusal _ _ h.many)))
least_unmade chart r Memory h = made_stop _ _ (made_unknown _ _)

-- there is one
pub least_made : (chart : Chart) (r : Partition) {words : List (List ℕ)} {shelf : ShelfState} {l : LeastSuite} → IsLeastAllowed (plan_of_chart chart) r → IsLeastSuite chart r l → Made (LeastSuiteOver chart r) words shelf shelf (Ok l)
least_made chart r h is =
    made_then _ _ (made_unless _ _ h.few) (made_then _ _ (made_is _ h.rank) (made_then _ _ (made_unless _ _ (not_more 20000000 _ h.few_steps)) (made_is _ is)))
