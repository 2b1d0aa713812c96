-- The text that `play` prints.
use Rattle.std.specs.Prelude.{ℕ, ℤ, List}
use Rattle.std.specs.List.{flat_map}
use Rattle.subject.specs.Meaning.{answer}
use Rattle.chart_model.specs.declared.chart.Chart.{Chart}
use Rattle.chart_meaning.specs.Plan.{plan_of_chart}
use Rattle.command_stages.specs.Numbers.{line_of}

-- one line for each reply of the chart's answer to the word
abbrev pub play_text : Chart → List (List ℤ) → List ℕ
play_text chart word = flat_map line_of (answer (plan_of_chart chart) word)
