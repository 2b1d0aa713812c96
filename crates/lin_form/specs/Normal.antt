-- The normal form of an inequality, and the atoms of a comparison, as what is computed.
use Rattle.std.specs.Prelude.{ℕ, zero, suc, ◌%◌, ℤ, pos, List, [], ◌∷◌, map, Bool, unsigned_abs, int_div, if◌then◌else◌}
use Rattle.std.specs.Int.{int_div_euclid}
use Rattle.std.specs.List.{list_all, cons_option}
use Rattle.std.specs.Ordering.{int_eq}
use Rattle.lin_form.specs.declared.form.Comparison.{Comparison}
use Rattle.lin_form.specs.declared.form.Relation.{Relation}
use Rattle.lin_form.specs.Inequality.{Inequality, first_of, second_of, put_in, turned}

-- Euclid's algorithm, in at most so many steps
abbrev pub euclid : ℕ → ℕ → ℕ → ℕ
euclid zero a b = a
euclid (suc steps) a zero = a
euclid (suc steps) a (suc b) = euclid steps (suc b) (a % suc b)

-- the greatest common divisor
abbrev pub gcd : ℕ → ℕ → ℕ
gcd a b = euclid b a b

-- the greatest number that divides all, and 0 where all are 0
abbrev pub divisor_of : List ℤ → ℕ
divisor_of [] = 0
divisor_of (a ∷ numbers) = gcd (divisor_of numbers) (unsigned_abs a)

-- an inequality divided, its constant rounded towards minus infinity
abbrev pub divided_by : ℕ → Inequality → Inequality
divided_by divisor whole = record {
  coefficients = map (λ a. int_div a (pos divisor)) whole.coefficients;
  constant = int_div_euclid whole.constant (pos divisor);
}

-- an inequality's normal form, where not all of its coefficients are 0
abbrev pub normal_of : Inequality → Inequality
normal_of whole = turned (divided_by (divisor_of whole.coefficients) whole)

abbrev pub are_zero : List ℤ → Bool
are_zero numbers = list_all (λ a. int_eq a (pos 0)) numbers

-- the inequalities of a relation of the left side with 0
abbrev pub inequalities_of : Relation → Inequality → List Inequality
inequalities_of relation whole = first_of relation whole ∷ cons_option (second_of relation whole) []

-- the atoms of a comparison for the memories' values: none where no input has a coefficient other than 0
abbrev pub atoms_of_comparison : Comparison → List ℤ → List Inequality
atoms_of_comparison comparison memory =
    if are_zero comparison.form.inputs then [] else map normal_of (inequalities_of comparison.relation (put_in comparison.form memory))
