-- What the text of a command shows.
use Rattle.std.specs.Prelude.{◌≡◌, ℕ, Bool, true, List, Option, Some}
use Rattle.test_world.specs.Sink.{Grows}
use Rattle.chart_meaning.specs.Plan.{plan_of_chart}
use Rattle.subject.specs.Alike.{MembersActAlike}
use Rattle.subject.specs.Domain.{Complete, Inside, box}
use Rattle.subject.specs.Shape.{HasShape}
use Rattle.subject.specs.Suite.{SuiteParts, tests_of}
use Rattle.suite_model.specs.Text.{suite_text}
use Rattle.verdict_report.specs.Json.{json_text}
use Rattle.command_words.specs.declared.command.Command.{Command}
use Rattle.command_words.specs.declared.command.Command.TheVariants.{Classes, Suite, Run as RunSuite, Json, Replay, Gen}
use Rattle.command_stages.specs.Stage.{Given}
use Rattle.command_stages.specs.Serve.{Run, given_of}
use Rattle.class_stages.specs.Text.{classes_text}
use Rattle.judge_stages.specs.Verdicts.{verdict_lines}
use Rattle.command_meaning.specs.Inputs.{AreInputsOf}
use Rattle.command_meaning.specs.Runs.{IsRunOf}
use Rattle.command_meaning.specs.Replays.{IsReplayOf}
use Rattle.command_meaning.specs.Generated.{IsSummaryOf}

-- the text is that of the classes of the held chart and cuts, and the members of each act alike in the chart
pub record AreClassesOf (named : Bool) (given : Given) (text : List ℕ) : Type 0 where
  pub inputs : AreInputsOf 2 named given
  pub same_text : text ≡ classes_text inputs.partition
  pub alike : let model = plan_of_chart inputs.chart in
      MembersActAlike (box model inputs.partition) inputs.partition model

-- the text is that of a suite with the shape for the held chart's plan, the classes of the chart and the held cuts, and
-- the bound; its tests are complete; and the chart's own plan lies inside the fault domain
pub record IsSuiteOf (bound : ℕ) (named : Bool) (given : Given) (text : List ℕ) : Type 0 where
  pub inputs : AreInputsOf 3 named given
  pub suite : SuiteParts
  pub same_text : text ≡ suite_text suite
  pub shape : HasShape (plan_of_chart inputs.chart) inputs.partition bound suite
  pub complete : Complete (plan_of_chart inputs.chart) inputs.partition bound (tests_of suite)
  pub inside : Inside (plan_of_chart inputs.chart) inputs.partition bound (plan_of_chart inputs.chart)

-- what the text of a command shows, if the words are one, and where what it tells of passes or does not
abbrev pub Means : Option Command → Given → Bool → List ℕ → Type 0
Means (Some (Classes named)) given passes text = (passes ≡ true) × AreClassesOf named given text
Means (Some (Suite bound named)) given passes text = (passes ≡ true) × IsSuiteOf bound named given text
Means (Some (RunSuite bound named)) given passes text = IsRunOf verdict_lines bound named given passes text
Means (Some (Json bound named)) given passes text = IsRunOf json_text bound named given passes text
Means (Some Replay) given passes text = IsReplayOf given passes text
Means (Some (Gen number)) given passes text = (passes ≡ true) × IsSummaryOf number text
Means other given passes text = passes ≡ true

-- a text was put to `out`, and this is what it shows
abbrev pub PutsMeaning : Option Command → Run → Bool → Type 0
PutsMeaning command run passes =
    (text : List ℕ) × Grows run.out run.out_after text × Means command (given_of run) passes text
