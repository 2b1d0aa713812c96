-- The classes of a chart and cuts, and why there are none.
use Rattle.std.specs.Prelude.{◌≡◌, ◌↔◌, ℕ, ◌<◌, ℤ, Bool, true, List, length, map, Some, slice_get}
use Rattle.std.specs.List.{All}
use Rattle.lin_form.specs.Atom.{inequality_of}
use Rattle.lin_form.specs.Inequality.{says}
use Rattle.lin_form.specs.Signature.{ranges_of}
use Rattle.lin_form.specs.declared.form.Comparison.{Comparison}
use Rattle.input_classes.specs.Partition.{Partition, IsPartition}
use Rattle.input_classes.specs.VectorSet.{IsIn, box_of}
use Rattle.chart_model.specs.Box.{IsInBox}
use Rattle.chart_model.specs.declared.chart.Chart.{Chart}
use Rattle.guard_atoms.specs.Atoms.{atoms_in, has_large_coefficient, has_many_atoms}
use Rattle.command_stages.specs.declared.stop.Quantity.TheVariants.{Coefficient, Atoms, Classes}
use Rattle.command_stages.specs.declared.stop.Refusal.TheVariants.{NoInput, Beyond}
use Rattle.command_stages.specs.Stage.{Stage, Then, Is, Unless}

-- no vector is in the chart's box
abbrev pub IsBoxEmpty : Chart → Type 0
IsBoxEmpty chart = (x : List ℤ) → IsInBox chart x → ⊥

-- the truths of the atoms of a chart and cuts on a vector
abbrev pub truths_on : Chart → List Comparison → List ℤ → List Bool
truths_on chart cuts x = map (λ atom. says atom x) (atoms_in chart cuts)

-- vectors of the chart's box of which no two have the same truths, more than n of them
pub record HasMoreClasses (n : ℕ) (chart : Chart) (cuts : List Comparison) : Type 0 where
  pub vectors : List (List ℤ)
  pub more : n < length vectors
  pub inside : All (IsInBox chart) vectors
  pub different : (i j : ℕ) (x y : List ℤ) → slice_get vectors i ≡ Some x → slice_get vectors j ≡ Some y
      → truths_on chart cuts x ≡ truths_on chart cuts y → i ≡ j

-- the partition of the chart's box by the atoms of the chart and cuts, where its literals say what the chart assumes
pub record IsChartPartition (chart : Chart) (cuts : List Comparison) (r : Partition) : Type 0 where
  pub atoms : map inequality_of r.atoms ≡ atoms_in chart cuts
  pub ranges : r.ranges ≡ ranges_of chart.signature.inputs
  pub box : (x : List ℤ) → IsIn (box_of chart.signature r.assumed) x ↔ IsInBox chart x
  pub exact : IsPartition r

-- the classes of a chart, which the word with this number names, and cuts
abbrev pub ClassesOver : ℕ → Chart → List Comparison → Stage Partition
ClassesOver name chart cuts =
    Then (Unless (has_large_coefficient chart cuts ≡ true) (Beyond Coefficient)) (λ _.
    Then (Unless (has_many_atoms chart cuts ≡ true) (Beyond Atoms)) (λ _.
    Then (Unless (IsBoxEmpty chart) (NoInput name)) (λ _.
    Then (Unless (HasMoreClasses 4096 chart cuts) (Beyond Classes)) (λ _.
    Is (IsChartPartition chart cuts)))))
