-- The suite of a chart, before the verdict by it.
use Rattle.std.proofs.Common.{◌≡◌, ℕ, false, List, [], None, Result, Ok, sym, subst}
use Rattle.test_world.specs.Shelf.{ShelfState}
use Rattle.lin_form.specs.declared.signature.Signature.{Signature}
use Rattle.input_classes.specs.Partition.{Partition}
use Rattle.chart_model.specs.declared.chart.Chart.{Chart}
use Rattle.chart_meaning.specs.Plan.{plan_of_chart}
use Rattle.subject.specs.Domain.{IsFitting}
use Rattle.subject.specs.Shape.{HasShape}
use Rattle.subject.specs.Suite.{SuiteParts}
use Rattle.command_stages.specs.declared.stop.Source.{Source}
use Rattle.command_stages.specs.declared.stop.Stop.{Stop}
use Rattle.command_stages.specs.Stage.{Given, Then, Is, Unless, Made, Makes, at_shelf}
use Rattle.suite_stages.specs.Suites.{SuiteOver}
use Rattle.run_stages.specs.declared.implementation.Implementation.{Implementation}
use Rattle.run_stages.specs.Implementations.{signature_of}
use Rattle.judge_stages.specs.Verdicts.{Judgement, JudgeOver}

pub suite_over : (bound : ℕ) (chart : Chart) (r : Partition) (given : Given) (sources : List Source) (s : SuiteParts) → SuiteOver bound chart r given sources (Ok s) → HasShape (plan_of_chart chart) r bound s
unfolding Then Unless Is
suite_over bound chart r given sources suite (a, b, c, d, e, (f, g, h, i, j, (k, l, m, n, o, (p, q, s, t, u, v)))) = v.1

-- a shelf that tells nothing
no_shelf : ShelfState
no_shelf = record { shown = None; visited = None; faults = 0; sound = false }

-- an implementation that fits the chart fits its suite
pub fits_suite : (bound : ℕ) (chart : Chart) (r : Partition) (suite : SuiteParts) (i : Implementation) → Makes (SuiteOver bound chart r) (Ok suite) → IsFitting chart.signature (signature_of i) → IsFitting suite.signature (signature_of i)
fits_suite bound chart r suite i makes fits =
    let made = makes [] no_shelf in
    let shape = suite_over bound chart r (at_shelf [] no_shelf) made.sources suite made.comes in
    let P : Signature → Type 0 = λ s. IsFitting s (signature_of i) in
    subst P (sym shape.suits.signature) fits

-- the plan of a chart, made ready or not
pub over_chart : (bound : ℕ) (plan chart : Chart) (r : Partition) (i : Implementation) {words : List (List ℕ)} {shelf : ShelfState} {o : Result Judgement Stop} → plan ≡ chart → Made (JudgeOver bound plan r i) words shelf shelf o → Made (JudgeOver bound chart r i) words shelf shelf o
over_chart bound plan chart r i {words} {shelf} {o} same made =
    let P : Chart → Type 0 = λ c. Made (JudgeOver bound c r i) words shelf shelf o in
    subst P same made
