-- The stages that read the texts of a command.
use Rattle.std.specs.Prelude.{ℕ, ℤ, List}
use Rattle.chart_model.specs.declared.chart.Chart.{Chart}
use Rattle.chart_syntax.specs.Reading.{Reads, Refuses}
use Rattle.chart_syntax.specs.Words.{ReadsWord, RefusesWord}
use Rattle.command_stages.specs.Stage.{Stage, Then, TextAt, Reading, text_refusal}

-- how many bytes a text may have
abbrev pub most_bytes : ℕ
most_bytes = 262144

-- the chart that the word with this number names
abbrev pub ChartAt : ℕ → Stage Chart
ChartAt number = Then (TextAt number most_bytes) (λ text. Reading (text_refusal number) (Reads text) (Refuses text))

-- the word over the chart that the word with this number names
abbrev pub WordOver : ℕ → Chart → Stage (List (List ℤ))
WordOver number chart = Then (TextAt number most_bytes)
    (λ text. Reading (text_refusal number) (ReadsWord chart text) (RefusesWord chart text))
