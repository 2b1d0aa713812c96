-- What functions answer that add the atoms of comparisons to those found.
use Rattle.std.specs.Prelude.{◌≡◌, ◌<◌, ◌≤◌, ℤ, ◌+ℤ◌, ◌*ℤ◌, List, fold, length, map, Result, Ok, Err}
use Rattle.lin_form.specs.Form.{IsModerate}
use Rattle.lin_form.specs.Inequality.{Inequality}
use Rattle.lin_form.specs.Normal.{inequalities_of, normal_of}
use Rattle.lin_form.specs.Range.{AreWithin}
use Rattle.lin_form.specs.declared.form.Comparison.{Comparison}
use Rattle.lin_form.specs.declared.form.Relation.{Relation}
use Rattle.chart_model.specs.Chart.{range_size}
use Rattle.chart_model.specs.declared.state.Memory.{Memory}
use Rattle.guard_atoms.specs.Atoms.{add, numbers_from}
use Rattle.guard_atoms.specs.declared.error.AtomError.{AtomError}
use Rattle.guard_atoms.specs.declared.error.AtomError.TheVariants as error

-- all were added and there are at most 128, or there are more than 128 with them
abbrev pub Adds : List Inequality → List Inequality → List Inequality → Result (Unit {0}) AtomError → Type 0
Adds old atoms new (Ok u) = (new ≡ fold add old atoms) × (length old ≤ 128 → length new ≤ 128)
Adds old atoms new (Err error.Coefficient) = ⊥
Adds old atoms new (Err error.TooMany) = 128 < length (fold add old atoms)
Adds old atoms new (Err error.Memory) = Unit {0}

-- a form is moderate, and its inputs' coefficients are small
pub record IsFormOfAtoms (comparison : Comparison) : Type 0 where
  pub moderate : IsModerate comparison.form
  pub small : AreWithin 1000000 comparison.form.inputs

-- the atoms of a sum over the inputs, with these coefficients and a constant, that stands in a relation with 0
abbrev pub atoms_with : Relation → List ℤ → ℤ → List Inequality
atoms_with relation inputs constant =
    map normal_of (inequalities_of relation (record { coefficients = inputs; constant = constant }))

-- a number plus each of a memory's values times its coefficient
abbrev pub sums_from : ℤ → Memory → ℤ → List ℤ
sums_from coefficient memory constant =
    map (λ value. constant +ℤ coefficient *ℤ value) (numbers_from memory.lo (range_size memory))
