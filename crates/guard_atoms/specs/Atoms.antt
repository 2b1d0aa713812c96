-- The atoms of a chart and cuts: the comparisons of the guards in written order, then the cuts, each with all values
-- of the memories that it names put in.
use Rattle.std.specs.Prelude.{ℕ, zero, suc, ℤ, pos, ◌+ℤ◌, Bool, ◌&&◌, List, [], ◌∷◌, ◌++◌, drop, fold, flat_map, get_or, length, map, nat_lt, unsigned_abs, if◌then◌else◌}
use Rattle.std.specs.List.{list_any}
use Rattle.std.specs.Option.{option_map_or}
use Rattle.std.specs.Ordering.{int_eq}
use Rattle.std.specs.Cmp.Lexicographic.{pointwise}
use Rattle.lin_form.specs.Inequality.{Inequality}
use Rattle.lin_form.specs.Normal.{atoms_of_comparison}
use Rattle.lin_form.specs.declared.form.Comparison.{Comparison}
use Rattle.chart_model.specs.Chart.{range_size}
use Rattle.chart_model.specs.Guard.{comparisons_of}
use Rattle.chart_model.specs.declared.chart.Chart.{Chart}
use Rattle.chart_model.specs.declared.state.Memory.{Memory}
use Rattle.chart_model.specs.declared.transition.Transition.{Transition}

-- so many numbers from a number on, in ascending order
abbrev pub numbers_from : ℤ → ℕ → List ℤ
numbers_from low zero = []
numbers_from low (suc n) = low ∷ numbers_from (low +ℤ pos 1) n

-- what is put in for a memory: each value of its range where its coefficient is not 0, and else 0 alone
abbrev pub values_of : ℤ → Memory → List ℤ
values_of coefficient memory =
    if int_eq coefficient (pos 0) then pos 0 ∷ [] else numbers_from memory.lo (range_size memory)

-- the valuations of the memories with these coefficients, in lexicographic order, low values first
abbrev pub valuations : List ℤ → List Memory → List (List ℤ)
valuations coefficients [] = [] ∷ []
valuations coefficients (memory ∷ memories) =
    flat_map (λ value. map (λ values. value ∷ values) (valuations (drop 1 coefficients) memories))
    (values_of (get_or coefficients 0 (pos 0)) memory)

-- the atoms of a comparison for all values of the memories that it names
abbrev pub atoms_over : List Memory → Comparison → List Inequality
atoms_over memories comparison = flat_map (atoms_of_comparison comparison) (valuations comparison.form.memory memories)

-- the comparisons of a transition's guard in written order
abbrev pub comparisons_on : Transition → List Comparison
comparisons_on transition = option_map_or comparisons_of transition.guard []

-- the comparisons of all guards in written order
abbrev pub guard_comparisons : Chart → List Comparison
guard_comparisons chart = flat_map comparisons_on chart.transitions

abbrev pub is_same : Inequality → Inequality → Bool
is_same a b = pointwise int_eq a.coefficients b.coefficients && int_eq a.constant b.constant

-- an atom that was found already is not added again
abbrev pub add : List Inequality → Inequality → List Inequality
add found atom = if list_any (is_same atom) found then found else found ++ atom ∷ []

-- the atoms of a chart and cuts, as inequalities in normal form
abbrev pub atoms_in : Chart → List Comparison → List Inequality
atoms_in chart cuts = fold add [] (flat_map (atoms_over chart.memories) (guard_comparisons chart ++ cuts))

-- there are more than 128 different atoms
abbrev pub has_many_atoms : Chart → List Comparison → Bool
has_many_atoms chart cuts = nat_lt 128 (length (atoms_in chart cuts))

-- an input's coefficient is above 1,000,000 in absolute value
abbrev pub is_large : Comparison → Bool
is_large comparison = list_any (λ a. nat_lt 1000000 (unsigned_abs a)) comparison.form.inputs

-- so it is in some assumption, guard or cut
abbrev pub has_large_coefficient : Chart → List Comparison → Bool
has_large_coefficient chart cuts = list_any is_large (chart.assumed ++ guard_comparisons chart ++ cuts)
