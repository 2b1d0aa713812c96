-- The suite of a replay is one, or its text is refused in one way.
use Rattle.std.proofs.Common.{ℕ, List}
use Rattle.suite_reading.specs.Reading.{ReadsSuite, RefusesText, IsDecided}
use Rattle.command_stages.specs.declared.stop.Source.{Source}
use Rattle.command_stages.specs.declared.stop.Source.TheVariants.{Word}
use Rattle.command_stages.specs.Stage.{IsProper, IsDecidedBy, suite_refusal}
use Rattle.command_stages.proofs.Proper.{proper_then, proper_text, proper_reading}
use Rattle.replay_stages.specs.Suites.{SuiteAt, most_suite_bytes}

-- each text has at most one reading or refusal as a suite
abbrev pub SuiteTexts : Type 0
SuiteTexts = (text : List ℕ) → IsDecided text

decided : SuiteTexts → (text : List ℕ) → IsDecidedBy (ReadsSuite text) (RefusesText text)
decided texts text = let d = texts text in record { one_reading = d.one_reading; one_refusal = d.one_refusal; apart = d.apart }

pub suite_at_proper : {may : Source → Type 0} → SuiteTexts → (number : ℕ) → may (Word number) → IsProper may (SuiteAt number)
suite_at_proper texts number h = proper_then _ _ (proper_text number most_suite_bytes h) (λ text. proper_reading (suite_refusal number) (ReadsSuite text) (RefusesText text) (decided texts text))
