-- The inputs of a command that the held texts give.
use Rattle.std.specs.Prelude.{◌≡◌, ℕ, Bool, true, false, List, []}
use Rattle.test_world.specs.Shelf.{Holds}
use Rattle.lin_form.specs.declared.form.Comparison.{Comparison}
use Rattle.lin_form.specs.declared.signature.Signature.{Signature}
use Rattle.input_classes.specs.Partition.{Partition}
use Rattle.chart_model.specs.declared.chart.Chart.{Chart}
use Rattle.chart_syntax.specs.Reading.{Reads}
use Rattle.cut_syntax.specs.Cuts.{ReadsCuts}
use Rattle.command_stages.specs.Report.{word_at}
use Rattle.command_stages.specs.Stage.{Given}
use Rattle.class_stages.specs.Classes.{IsChartPartition}

-- the text held under the word with this number reads as the chart
abbrev pub IsChartAt : ℕ → Given → Chart → Type 0
IsChartAt number given chart = (text : List ℕ) × Holds given.held (word_at given.words number) text × Reads text chart

-- the text held under the word with this number reads as the cuts, or there are none where none is named
abbrev pub AreCutsAt : Bool → ℕ → Signature → Given → List Comparison → Type 0
AreCutsAt false number signature given cuts = cuts ≡ []
AreCutsAt true number signature given cuts =
    (text : List ℕ) × Holds given.held (word_at given.words number) text × ReadsCuts signature text cuts

-- the chart and the cuts that the held texts give, the word of the cuts with this number, and their partition
pub record AreInputsOf (number : ℕ) (named : Bool) (given : Given) : Type 0 where
  pub chart : Chart
  pub cuts : List Comparison
  pub partition : Partition
  pub is_chart : IsChartAt 1 given chart
  pub are_cuts : AreCutsAt named number chart.signature given cuts
  pub is_partition : IsChartPartition chart cuts partition
