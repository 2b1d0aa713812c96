-- The classes of a chart without cuts.
use Rattle.std.specs.Prelude.{◌≡◌, [], map}
use Rattle.lin_form.specs.Atom.{inequality_of}
use Rattle.lin_form.specs.Signature.{ranges_of}
use Rattle.input_classes.specs.Partition.{Partition}
use Rattle.chart_model.specs.declared.chart.Chart.{Chart}
use Rattle.guard_atoms.specs.Atoms.{atoms_in}

-- a partition of the ranges of a chart's inputs, by the atoms of its guards
pub record IsDivided (chart : Chart) (r : Partition) : Type 0 where
  pub atoms : map inequality_of r.atoms ≡ atoms_in chart []
  pub ranges : r.ranges ≡ ranges_of chart.signature.inputs
