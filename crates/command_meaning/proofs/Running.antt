-- What a run shows.
use Rattle.std.proofs.Common.{ℕ, List, Ok}
use Rattle.std.specs.List.{All}
use Rattle.input_classes.specs.Partition.{Partition, Covers}
use Rattle.input_classes.specs.VectorSet.{VectorSet}
use Rattle.chart_model.specs.declared.chart.Chart.{Chart}
use Rattle.chart_meaning.specs.Plan.{plan_of_chart}
use Rattle.impl_table.specs.Plan.{plan_of_table}
use Rattle.subject.specs.Domain.{box}
use Rattle.subject.specs.Method.{IsAnswered}
use Rattle.subject.specs.Shape.{HasShape}
use Rattle.subject.specs.Suite.{SuiteParts, tests_of}
use Rattle.subject.specs.Tests.{Failure, TestCase, IsFirstFailure, failed_word}
use Rattle.subject.proofs.CallerLemmas.{shape_answered, shape_decides}
use Rattle.subject.proofs.Parting.{is_word, parts, unequal}
use Rattle.test_subject.specs.declared.verdict.Verdict.{Verdict}
use Rattle.test_subject.specs.declared.verdict.Verdict.TheVariants.{Pass, Fail}
use Rattle.test_subject.specs.Verdict.{IsVerdict}
use Rattle.command_stages.specs.declared.stop.Source.{Source}
use Rattle.command_stages.specs.Stage.{Given, Then, TextAt, Reading}
use Rattle.run_stages.specs.declared.implementation.Implementation.{Implementation}
use Rattle.run_stages.specs.declared.implementation.Implementation.TheVariants.{Chart as OfChart, Table as OfTable}
use Rattle.run_stages.specs.Implementations.{answers_of, signature_of}
use Rattle.run_stages.specs.Stages.{ImplementationAt}
use Rattle.command_meaning.specs.Runs.{IsImplementationAt, ShowsDifference, Shows}

pub implementation_at : (number : ℕ) (given : Given) (sources : List Source) (implementation : Implementation) → ImplementationAt number given sources (Ok implementation) → IsImplementationAt number given implementation
unfolding Then TextAt Reading
implementation_at number given sources implementation (text, u, v, e, p, q) = (text, p.1, q.1)

differs : (s : VectorSet) (chart : Chart) (i : Implementation) (tests : List TestCase) (failure : Failure) → All (IsAnswered s (plan_of_chart chart)) tests → IsFirstFailure (answers_of i) tests failure → ShowsDifference s chart i (failed_word tests failure)
differs s chart (OfChart other) tests failure answered h =
    let m = plan_of_chart chart in
    let i = plan_of_chart other in
    record { is_word = is_word s m i tests answered failure h; parts = parts s m i tests answered failure h; unequal = unequal s m i tests answered failure h }
differs s chart (OfTable table) tests failure answered h =
    let m = plan_of_chart chart in
    let i = plan_of_table table in
    record { is_word = is_word s m i tests answered failure h; parts = parts s m i tests answered failure h; unequal = unequal s m i tests answered failure h }

pub shows : (chart : Chart) (r : Partition) (bound : ℕ) (suite : SuiteParts) (i : Implementation) (v : Verdict) → Covers (box (plan_of_chart chart) r) r → HasShape (plan_of_chart chart) r bound suite → IsVerdict (answers_of i) (tests_of suite) v → Shows chart r bound (tests_of suite) i v
shows chart r bound suite (OfChart other) Pass covers shape h = (h, λ inside. (shape_decides (plan_of_chart chart) r bound covers suite (plan_of_chart other) inside shape).0 h)
shows chart r bound suite (OfTable table) Pass covers shape h = (h, λ inside. (shape_decides (plan_of_chart chart) r bound covers suite (plan_of_table table) inside shape).0 h)
shows chart r bound suite i (Fail test step given) covers shape h =
    let failure : Failure = record { test = test; step = step; given = given } in
    differs (box (plan_of_chart chart) r) chart i (tests_of suite) failure (shape_answered (plan_of_chart chart) r bound covers suite shape) h
