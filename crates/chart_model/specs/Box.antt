-- The box of a chart: the input vectors that are considered.
use Rattle.std.specs.Prelude.{◌≡◌, ℤ, pos, Bool, true, List, replicate}
use Rattle.std.specs.List.{list_all}
use Rattle.lin_form.specs.declared.form.Comparison.{Comparison}
use Rattle.lin_form.specs.Form.{truth_of}
use Rattle.lin_form.specs.Signature.{IsInInputRanges}
use Rattle.chart_model.specs.declared.chart.Chart.{Chart}

-- each comparison is true for a vector, where memories count as 0
abbrev pub meets : List Comparison → List ℤ → Bool
meets assumed vector = list_all (λ comparison. truth_of comparison vector (replicate 4 (pos 0))) assumed

-- a vector of the chart's box: one number per input, each in its input's range, and every assumption holds
pub record IsInBox (chart : Chart) (vector : List ℤ) : Type 0 where
  pub ranges : IsInInputRanges chart.signature.inputs vector
  pub assumed : meets chart.assumed vector ≡ true
