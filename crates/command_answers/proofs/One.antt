-- Each command has one answer, and reads its texts alone.
use Rattle.std.proofs.Common.{◌≡◌, ℕ, Bool, true, List, Option, Some, None, Err, refl, sym, ◌∙◌, subst, inl, inr}
use Rattle.std.specs.Prelude.{IsSome}
use Rattle.command_words.specs.declared.command.Command.{Command}
use Rattle.command_words.specs.declared.command.Command.TheVariants.{Play, Classes, Suite, Run, Json, Replay, Gen}
use Rattle.command_words.specs.Command.{command_of}
use Rattle.command_stages.specs.declared.stop.Source.{Source}
use Rattle.command_stages.specs.declared.stop.Departure.TheVariants.{Unread}
use Rattle.command_stages.specs.declared.stop.Stop.TheVariants.{NoCommand, Departed}
use Rattle.command_stages.specs.Stage.{Given, IsDetermined, IsProper, Prints}
use Rattle.command_stages.specs.Serve.{Answer, answer, IsOne}
use Rattle.command_stages.proofs.Proper.{proper_then, proper_prints, whole_one}
use Rattle.command_stages.proofs.ProperBy.{proper_beyond, IsMoved, moved_then}
use Rattle.command_stages.proofs.Readers.{Charts, Words, chart_proper, word_proper}
use Rattle.replay_stages.proofs.Proper.{SuiteTexts, suite_at_proper}
use Rattle.class_stages.specs.Text.{classes_text}
use Rattle.class_stages.proofs.Proper.{CutTexts, AreSame, cuts_proper, classes_like, text_same}
use Rattle.chart_model.specs.declared.chart.Chart.{Chart}
use Rattle.suite_stages.proofs.Proper.{suite_proper, suite_moved}
use Rattle.run_stages.specs.Implementations.{signature_of}
use Rattle.run_stages.proofs.Proper.{Tables, Verdicts, implementation_proper, fits_proper}
use Rattle.judge_stages.specs.Verdicts.{Printing, verdict_lines}
use Rattle.judge_stages.proofs.Proper.{judge_proper, judge_by_proper, prints_proper}
use Rattle.verdict_report.specs.Json.{json_text}
use Rattle.gen_stages.specs.Summary.{SummaryOf}
use Rattle.gen_stages.proofs.Proper.{summary_proper}
use Rattle.command_answers.specs.Ends.{PlayEnds, ClassesEnds, SuiteEnds, RunEnds, ReplayEnds, AnswersCommand, Answers, MayRead, MayReadRun, IsNamed}

-- each text has at most one reading or refusal, as a chart, as a word over a chart, as cuts over a signature, as a table and
-- as a suite;
-- and answers have at most one verdict on tests
pub record AreDecided : Type 0 where
  pub charts : Charts
  pub words : Words
  pub cuts : CutTexts
  pub tables : Tables
  pub verdicts : Verdicts
  pub suites : SuiteTexts

play_proper : AreDecided → IsProper (MayRead Play) PlayEnds
play_proper texts = proper_then _ _ (chart_proper texts.charts 1 (inl refl)) (λ chart. proper_then _ _ (word_proper texts.words 2 chart (inr refl)) (λ word. proper_prints _ _))

-- the text of classes does not tell the same partitions apart
text_moved : (chart : Chart) → IsMoved (AreSame chart.signature) (λ partition. Prints true (classes_text partition))
text_moved chart r q same given s x h = subst (λ text. Prints true text given s x) (sym (text_same chart.signature r q same)) h

classes_proper : AreDecided → (named : Bool) → IsProper (MayRead (Classes named)) (ClassesEnds named)
classes_proper texts named =
    proper_then _ _ (chart_proper texts.charts 1 (inl refl)) (λ chart. proper_then _ _ (cuts_proper texts.cuts named 2 chart.signature (λ e. inr (e, refl))) (λ cuts.
    proper_beyond (AreSame chart.signature) _ _ (classes_like 1 chart cuts) (λ partition. proper_prints _ _) (text_moved chart)))

suite_ends_proper : AreDecided → (bound : ℕ) (named : Bool) → IsProper (MayRead (Suite bound named)) (SuiteEnds bound named)
suite_ends_proper texts bound named =
    proper_then _ _ (chart_proper texts.charts 1 (inl refl)) (λ chart. proper_then _ _ (cuts_proper texts.cuts named 3 chart.signature (λ e. inr (e, refl))) (λ cuts.
    proper_beyond (AreSame chart.signature) _ _ (classes_like 1 chart cuts) (λ partition. proper_then _ _ (suite_proper bound chart partition) (λ suite. proper_prints _ _)) (moved_then (AreSame chart.signature) _ _ (suite_moved bound chart))))

run_ends_proper : AreDecided → (printing : Printing) (bound : ℕ) (named : Bool) → IsProper (MayReadRun named) (RunEnds printing bound named)
run_ends_proper texts printing bound named =
    proper_then _ _ (judge_proper texts.charts texts.cuts texts.tables texts.verdicts bound named (inl refl) (λ e. inr (inl (e, refl))) (inr (inr refl))) (prints_proper printing)

replay_ends_proper : AreDecided → IsProper (MayRead Replay) ReplayEnds
replay_ends_proper texts =
    proper_then _ _ (suite_at_proper texts.suites 1 (inl refl)) (λ suite. proper_then _ _ (implementation_proper texts.charts texts.tables 2 (inr refl)) (λ implementation.
    proper_then _ _ (fits_proper 2 suite.signature (signature_of implementation)) (λ u.
    proper_then _ _ (judge_by_proper texts.verdicts suite implementation) (prints_proper verdict_lines))))

one_command : AreDecided → (o : Option Command) (given : Given) → IsSome given.held → (s t : List Source) (x y : Answer) → IsDetermined x.ends → IsDetermined y.ends → AnswersCommand o given s x → AnswersCommand o given t y → x ≡ y
one_command texts None given told s t x y d e p q = p.1 ∙ sym q.1
one_command texts (Some Play) given told s t x y d e p q = whole_one (MayRead Play) PlayEnds (play_proper texts) given told s t x y d e p q
one_command texts (Some (Classes named)) given told s t x y d e p q = whole_one (MayRead (Classes named)) (ClassesEnds named) (classes_proper texts named) given told s t x y d e p q
one_command texts (Some (Suite bound named)) given told s t x y d e p q = whole_one (MayRead (Suite bound named)) (SuiteEnds bound named) (suite_ends_proper texts bound named) given told s t x y d e p q
one_command texts (Some (Run bound named)) given told s t x y d e p q = whole_one (MayReadRun named) (RunEnds verdict_lines bound named) (run_ends_proper texts verdict_lines bound named) given told s t x y d e p q
one_command texts (Some Replay) given told s t x y d e p q = whole_one (MayRead Replay) ReplayEnds (replay_ends_proper texts) given told s t x y d e p q
one_command texts (Some (Json bound named)) given told s t x y d e p q = whole_one (MayReadRun named) (RunEnds json_text bound named) (run_ends_proper texts json_text bound named) given told s t x y d e p q
one_command texts (Some (Gen number)) given told s t x y d e p q = whole_one (MayRead (Gen number)) (SummaryOf number) (summary_proper texts.charts texts.verdicts number) given told s t x y d e p q

pub one : AreDecided → IsOne Answers
one texts given told s t x y d e p q = one_command texts (command_of given.words) given told s t x y d e p q

only_command : AreDecided → (o : Option Command) (given : Given) (sources : List Source) (put : List ℕ) (source : Source) → command_of given.words ≡ o → AnswersCommand o given sources (answer put (Err (Departed (Unread source)))) → IsNamed given source
only_command texts None given sources put source is h = let e : Err (Departed (Unread source)) ≡ Err NoCommand = (λ i. (h.1 i).ends) in cc
only_command texts (Some Play) given sources put source is h = (Play, is, (play_proper texts).only given sources source h.1)
only_command texts (Some (Classes named)) given sources put source is h = (Classes named, is, (classes_proper texts named).only given sources source h.1)
only_command texts (Some (Suite bound named)) given sources put source is h = (Suite bound named, is, (suite_ends_proper texts bound named).only given sources source h.1)
only_command texts (Some (Run bound named)) given sources put source is h = (Run bound named, is, (run_ends_proper texts verdict_lines bound named).only given sources source h.1)
only_command texts (Some Replay) given sources put source is h = (Replay, is, (replay_ends_proper texts).only given sources source h.1)
only_command texts (Some (Json bound named)) given sources put source is h = (Json bound named, is, (run_ends_proper texts json_text bound named).only given sources source h.1)
only_command texts (Some (Gen number)) given sources put source is h = (Gen number, is, (summary_proper {may = MayRead (Gen number)} texts.charts texts.verdicts number).only given sources source h.1)

pub only : AreDecided → (given : Given) (sources : List Source) (put : List ℕ) (source : Source) → Answers given sources (answer put (Err (Departed (Unread source)))) → IsNamed given source
only texts given sources put source h = only_command texts (command_of given.words) given sources put source refl h
