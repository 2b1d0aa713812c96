-- What each command comes to, and what is answered.
use Rattle.std.specs.Prelude.{◌≡◌, ℕ, Bool, true, List, [], ◌⊎◌, Option, Some, None, Err}
use Rattle.suite_model.specs.Text.{suite_text}
use Rattle.verdict_report.specs.Json.{json_text}
use Rattle.command_words.specs.declared.command.Command.{Command}
use Rattle.command_words.specs.declared.command.Command.TheVariants.{Play, Classes, Suite, Run, Json, Replay, Gen}
use Rattle.command_words.specs.Command.{command_of}
use Rattle.command_stages.specs.declared.stop.Source.{Source}
use Rattle.command_stages.specs.declared.stop.Source.TheVariants.{Word}
use Rattle.command_stages.specs.declared.stop.Stop.TheVariants.{NoCommand}
use Rattle.command_stages.specs.Stage.{Given, Stage, Then, Printed, Prints}
use Rattle.command_stages.specs.Texts.{ChartAt, WordOver}
use Rattle.command_stages.specs.Serve.{answer, Answering, Whole}
use Rattle.class_stages.specs.Cutting.{CutsAt}
use Rattle.class_stages.specs.Classes.{ClassesOver}
use Rattle.class_stages.specs.Text.{classes_text}
use Rattle.suite_stages.specs.Suites.{SuiteOver}
use Rattle.judge_stages.specs.Verdicts.{JudgeAt, JudgeBy, Printing, PrintsVerdict, verdict_lines}
use Rattle.run_stages.specs.Implementations.{signature_of}
use Rattle.run_stages.specs.Stages.{ImplementationAt, FitsOver}
use Rattle.replay_stages.specs.Suites.{SuiteAt}
use Rattle.gen_stages.specs.Summary.{SummaryOf}
use Rattle.command_answers.specs.Play.{play_text}

-- the chart, the word over it, and the chart's replies to the word
abbrev pub PlayEnds : Stage Printed
PlayEnds = Then (ChartAt 1) (λ chart. Then (WordOver 2 chart) (λ word. Prints true (play_text chart word)))

-- the chart, the cuts where a text of cuts is named, and their atoms and classes
abbrev pub ClassesEnds : Bool → Stage Printed
ClassesEnds named = Then (ChartAt 1) (λ chart. Then (CutsAt named 2 chart.signature) (λ cuts.
    Then (ClassesOver 1 chart cuts) (λ partition. Prints true (classes_text partition))))

-- the chart, the cuts where a text of cuts is named, their classes, and the suite for the bound
abbrev pub SuiteEnds : ℕ → Bool → Stage Printed
SuiteEnds bound named = Then (ChartAt 1) (λ chart. Then (CutsAt named 3 chart.signature) (λ cuts.
    Then (ClassesOver 1 chart cuts) (λ partition. Then (SuiteOver bound chart partition) (λ suite.
    Prints true (suite_text suite)))))

-- the verdict by the suite of the chart, the cuts and the bound on the implementation, printed so
abbrev pub RunEnds : Printing → ℕ → Bool → Stage Printed
RunEnds printing bound named = Then (JudgeAt bound named) (PrintsVerdict printing)

-- the suite that is read, the implementation and its fit, and the verdict
abbrev pub ReplayEnds : Stage Printed
ReplayEnds = Then (SuiteAt 1) (λ suite. Then (ImplementationAt 2) (λ implementation.
    Then (FitsOver 2 suite.signature (signature_of implementation)) (λ _.
    Then (JudgeBy suite implementation) (PrintsVerdict verdict_lines))))

-- what a command answers, if the words are one
abbrev pub AnswersCommand : Option Command → Answering
AnswersCommand None given sources one = (sources ≡ []) × (one ≡ answer [] (Err NoCommand))
AnswersCommand (Some Play) given sources one = Whole PlayEnds given sources one
AnswersCommand (Some (Classes named)) given sources one = Whole (ClassesEnds named) given sources one
AnswersCommand (Some (Suite bound named)) given sources one = Whole (SuiteEnds bound named) given sources one
AnswersCommand (Some (Run bound named)) given sources one = Whole (RunEnds verdict_lines bound named) given sources one
AnswersCommand (Some (Json bound named)) given sources one = Whole (RunEnds json_text bound named) given sources one
AnswersCommand (Some Replay) given sources one = Whole ReplayEnds given sources one
AnswersCommand (Some (Gen number)) given sources one = Whole (SummaryOf number) given sources one

-- the answer to the words and the texts that the shelf holds, where it tells them, and the texts that are taken up for it
abbrev pub Answers : Answering
Answers given sources one = AnswersCommand (command_of given.words) given sources one

-- the sources of a run: the chart, the cuts where a text of cuts is named, and the implementation
abbrev pub MayReadRun : Bool → Source → Type 0
MayReadRun named source =
    (source ≡ Word 1) ⊎ (((named ≡ true) × (source ≡ Word 3)) ⊎ (source ≡ Word 4))

-- the sources that a command may read: the texts that its words name
abbrev pub MayRead : Command → Source → Type 0
MayRead Play source = (source ≡ Word 1) ⊎ (source ≡ Word 2)
MayRead (Classes named) source = (source ≡ Word 1) ⊎ ((named ≡ true) × (source ≡ Word 2))
MayRead (Suite bound named) source = (source ≡ Word 1) ⊎ ((named ≡ true) × (source ≡ Word 3))
MayRead (Run bound named) source = MayReadRun named source
MayRead (Json bound named) source = MayReadRun named source
MayRead Replay source = (source ≡ Word 1) ⊎ (source ≡ Word 2)
MayRead (Gen number) source = ⊥

-- the words are a command, and the source is one of its texts
abbrev pub IsNamed : Given → Source → Type 0
IsNamed given source = (command : Command) × (command_of given.words ≡ Some command) × MayRead command source
