-- The atoms of a chart and the literals of its assumptions, and why there are none.
use Rattle.std.specs.Prelude.{◌≡◌, ◌↔◌, ◌≤◌, ℤ, true, false, List, [], length, map}
use Rattle.std.specs.List.{All}
use Rattle.input_classes.specs.VectorSet.{IsIn, box_of}
use Rattle.lin_form.specs.Atom.{inequality_of}
use Rattle.lin_form.specs.declared.atom.Atom.{Atom}
use Rattle.lin_form.specs.declared.form.Comparison.{Comparison}
use Rattle.lin_form.specs.declared.literal.Literal.{Literal}
use Rattle.chart_model.specs.Box.{IsInBox}
use Rattle.chart_model.specs.declared.chart.Chart.{Chart}
use Rattle.guard_atoms.specs.Atoms.{atoms_in, has_large_coefficient, has_many_atoms}
use Rattle.guard_atoms.specs.declared.error.AtomError.{AtomError}
use Rattle.guard_atoms.specs.declared.error.AtomError.TheVariants.{Coefficient, TooMany, Memory}

-- the atoms of a chart and cuts in their order, at most 128, where no coefficient is large
pub record AreAtomsOf (chart : Chart) (cuts : List Comparison) (atoms : List Atom) : Type 0 where
  pub listed : map inequality_of atoms ≡ atoms_in chart cuts
  pub width : All (λ atom. length atom.coefficients ≡ length chart.signature.inputs) atoms
  pub small : has_large_coefficient chart cuts ≡ false
  pub few : has_many_atoms chart cuts ≡ false

-- why there is no list of atoms: a large coefficient first, then too many atoms
abbrev pub IsAtomFault : Chart → List Comparison → AtomError → Type 0
IsAtomFault chart cuts Coefficient = has_large_coefficient chart cuts ≡ true
IsAtomFault chart cuts TooMany = (has_large_coefficient chart cuts ≡ false) × (has_many_atoms chart cuts ≡ true)
IsAtomFault chart cuts Memory = Unit {0}

-- literals that say which vectors of the ranges are in the chart's box
pub record AreAssumedOf (chart : Chart) (literals : List Literal) : Type 0 where
  pub box : (x : List ℤ) → IsIn (box_of chart.signature literals) x ↔ IsInBox chart x
  pub few : length literals ≤ 32
  pub width : All (λ literal. length literal.atom.coefficients ≡ length chart.signature.inputs) literals
  pub small : has_large_coefficient chart [] ≡ false

-- why there are no literals
abbrev pub IsAssumedFault : Chart → AtomError → Type 0
IsAssumedFault chart Coefficient = has_large_coefficient chart [] ≡ true
IsAssumedFault chart TooMany = ⊥
IsAssumedFault chart Memory = Unit {0}
