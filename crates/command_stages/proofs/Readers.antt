-- The stages that read texts have one outcome.
use Rattle.std.proofs.Common.{ℕ, List}
use Rattle.chart_model.specs.declared.chart.Chart.{Chart}
use Rattle.chart_syntax.specs.Reading.{Reads, Refuses, IsDecided}
use Rattle.chart_syntax.specs.Words.{ReadsWord, RefusesWord, IsDecidedWord}
use Rattle.command_stages.specs.declared.stop.Source.{Source}
use Rattle.command_stages.specs.declared.stop.Source.TheVariants.{Word}
use Rattle.command_stages.specs.Stage.{IsProper, IsDecidedBy}
use Rattle.command_stages.specs.Texts.{ChartAt, WordOver}
use Rattle.command_stages.proofs.Proper.{proper_then, proper_text, proper_reading}

-- each text has at most one reading or refusal as a chart
abbrev pub Charts : Type 0
Charts = (text : List ℕ) → IsDecided text

-- each text has at most one reading or refusal as a word over a chart
abbrev pub Words : Type 0
Words = (chart : Chart) (text : List ℕ) → IsDecidedWord chart text

chart_decided : Charts → (text : List ℕ) → IsDecidedBy (Reads text) (Refuses text)
chart_decided charts text = let d = charts text in record { one_reading = d.one_reading; one_refusal = d.one_refusal; apart = d.apart }

word_decided : Words → (chart : Chart) (text : List ℕ) → IsDecidedBy (ReadsWord chart text) (RefusesWord chart text)
word_decided words chart text = let d = words chart text in record { one_reading = d.one_reading; one_refusal = d.one_refusal; apart = d.apart }

pub chart_proper : {may : Source → Type 0} → Charts → (number : ℕ) → may (Word number) → IsProper may (ChartAt number)
chart_proper charts number h = proper_then _ _ (proper_text number _ h) (λ text. proper_reading _ _ _ (chart_decided charts text))

pub word_proper : {may : Source → Type 0} → Words → (number : ℕ) (chart : Chart) → may (Word number) → IsProper may (WordOver number chart)
word_proper words number chart h = proper_then _ _ (proper_text number _ h) (λ text. proper_reading _ _ _ (word_decided words chart text))
