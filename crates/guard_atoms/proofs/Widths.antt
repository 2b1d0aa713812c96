-- What the comparisons of a chart and cuts keep, and how many coefficients their atoms have.
use Rattle.std.proofs.Common.{◌≡◌, ℕ, Bool, true, false, if◌then◌else◌, List, [], ◌∷◌, ◌++◌, map, length, ℤ, Option, Some, None, All, sym, subst, ◌∙◌, refl}
use Rattle.std.specs.Prelude.{fold, flat_map}
use Rattle.std.specs.List.{list_any, AllByRecursion}
use Rattle.std.specs.Option.{option_map_or, ForSome}
use Rattle.std.proofs.lemmas.List.{length-map}
use Rattle.std.proofs.lemmas.List.Elements.{All-from_recursion, recursion_from_All}
use Rattle.lin_form.specs.Atom.{inequality_of}
use Rattle.lin_form.specs.Form.{IsModerate}
use Rattle.lin_form.specs.Inequality.{Inequality, leads_positive, put_in, opposite, lowered}
use Rattle.lin_form.specs.Normal.{are_zero, atoms_of_comparison, divided_by, divisor_of, inequalities_of, normal_of}
use Rattle.lin_form.specs.Range.{AreWithin}
use Rattle.lin_form.specs.Trees.{Tree}
use Rattle.lin_form.specs.declared.atom.Atom.{Atom}
use Rattle.lin_form.specs.declared.form.Comparison.{Comparison}
use Rattle.lin_form.specs.declared.form.Relation.{Relation}
use Rattle.lin_form.specs.declared.form.Relation.TheVariants.{Less, LessOrEqual, Equal, NotEqual, GreaterOrEqual, Greater}
use Rattle.chart_model.specs.Chart.{IsFormOver, IsGuard, IsTransition}
use Rattle.chart_model.specs.Cuts.{AreCuts, IsCut}
use Rattle.chart_model.specs.Guard.{comparisons_of}
use Rattle.chart_model.specs.declared.chart.Chart.{Chart}
use Rattle.chart_model.specs.declared.state.Memory.{Memory}
use Rattle.guard_atoms.specs.Atoms.{add, atoms_in, atoms_over, comparisons_on, guard_comparisons, is_large, is_same, valuations}
use Rattle.guard_atoms.specs.inside.Adding.{IsFormOfAtoms}
use Rattle.guard_atoms.proofs.Each.{each, each_of, joined, unmap, weaker, whole}
use Rattle.guard_atoms.proofs.Sizes.{small_parts}

abbrev Over : ℕ → Inequality → Type 0
Over n whole = length whole.coefficients ≡ n

turned_width : (whole : Inequality) (b : Bool) → length (if b then whole else lowered (opposite whole)).coefficients ≡ length whole.coefficients
turned_width whole true = refl
turned_width whole false = length-map whole.coefficients _

normal_width : (n : ℕ) (whole : Inequality) → Over n whole → Over n (normal_of whole)
normal_width n whole e =
    let part = divided_by (divisor_of whole.coefficients) whole in
    turned_width (divided_by (divisor_of whole.coefficients) whole) (leads_positive part.coefficients) ∙ length-map whole.coefficients _ ∙ e

opposite_width : (n : ℕ) (whole : Inequality) → Over n whole → Over n (opposite whole)
opposite_width n whole e = length-map whole.coefficients _ ∙ e

inequalities_width : (n : ℕ) (relation : Relation) (whole : Inequality) → Over n whole → AllByRecursion (Over n) (map normal_of (inequalities_of relation whole))
inequalities_width n Less whole e = (normal_width n (lowered (opposite whole)) (opposite_width n whole e), tt)
inequalities_width n LessOrEqual whole e = (normal_width n (opposite whole) (opposite_width n whole e), tt)
inequalities_width n Equal whole e = (normal_width n whole e, (normal_width n (opposite whole) (opposite_width n whole e), tt))
inequalities_width n NotEqual whole e = (normal_width n whole e, (normal_width n (opposite whole) (opposite_width n whole e), tt))
inequalities_width n GreaterOrEqual whole e = (normal_width n whole e, tt)
inequalities_width n Greater whole e = (normal_width n (lowered whole) e, tt)

width_if : (n : ℕ) (comparison : Comparison) (memory : List ℤ) (b : Bool) → length comparison.form.inputs ≡ n → AllByRecursion (Over n) (if b then [] else map normal_of (inequalities_of comparison.relation (put_in comparison.form memory)))
width_if n comparison memory true e = tt
width_if n comparison memory false e = inequalities_width n comparison.relation (put_in comparison.form memory) e

over_width : (n : ℕ) (memories : List Memory) (comparison : Comparison) → length comparison.form.inputs ≡ n → AllByRecursion (Over n) (atoms_over memories comparison)
over_width n memories comparison e =
    let vs = valuations comparison.form.memory memories in
    whole (Over n) (atoms_of_comparison comparison) vs (each (λ memory. AllByRecursion (Over n) (atoms_of_comparison comparison memory)) vs (λ memory. width_if n comparison memory (are_zero comparison.form.inputs) e))

add_if : (n : ℕ) (found : List Inequality) (atom : Inequality) (b : Bool) → AllByRecursion (Over n) found → Over n atom → AllByRecursion (Over n) (if b then found else found ++ atom ∷ [])
add_if n found atom true h k = h
add_if n found atom false h k = joined (Over n) found (atom ∷ []) h (k, tt)

added_width : (n : ℕ) (found atoms : List Inequality) → AllByRecursion (Over n) found → AllByRecursion (Over n) atoms → AllByRecursion (Over n) (fold add found atoms)
added_width n found [] h k = h
added_width n found (atom ∷ atoms) h k = added_width n (add found atom) atoms (add_if n found atom (list_any (is_same atom) found) h k.0) k.1

-- a comparison's form is moderate, with one coefficient for each input
pub record IsOver (n : ℕ) (comparison : Comparison) : Type 0 where
  pub moderate : IsModerate comparison.form
  pub width : length comparison.form.inputs ≡ n

guard_over : (n memories : ℕ) (guard : Option (Tree Comparison)) → ForSome guard (IsGuard n memories) → AllByRecursion (IsOver n) (option_map_or comparisons_of guard [])
guard_over n memories None h = tt
guard_over n memories (Some guard) h = weaker (λ comparison. IsFormOver n memories comparison.form) (IsOver n) (comparisons_of guard) (λ q is. record { moderate = is.moderate; width = is.each_input }) (recursion_from_All (λ comparison. IsFormOver n memories comparison.form) (comparisons_of guard) (h guard refl).forms)

cuts_over : (n : ℕ) (cuts : List Comparison) → AllByRecursion IsCut cuts → AllByRecursion (λ cut. length cut.form.inputs ≡ n) cuts → AllByRecursion (IsOver n) cuts
cuts_over n [] h k = tt
cuts_over n (cut ∷ cuts) h k = (record { moderate = h.0.moderate; width = k.0 }, cuts_over n cuts h.1 k.1)

-- all comparisons of a chart and cuts are over the chart's inputs
pub all_over : (chart : Chart) (cuts : List Comparison) → AreCuts cuts → All (λ cut. length cut.form.inputs ≡ length chart.signature.inputs) cuts → AllByRecursion (IsOver (length chart.signature.inputs)) (guard_comparisons chart ++ cuts)
all_over chart cuts are widths =
    let moves = recursion_from_All (IsTransition (length chart.signature.inputs) (length chart.memories) (length chart.signature.outputs) chart.states) chart.transitions chart.kept.moves in
    joined (IsOver (length chart.signature.inputs)) (guard_comparisons chart) cuts
    (each_of (IsOver (length chart.signature.inputs)) (IsTransition (length chart.signature.inputs) (length chart.memories) (length chart.signature.outputs) chart.states) comparisons_on chart.transitions
    (λ t is. guard_over (length chart.signature.inputs) (length chart.memories) t.guard is.guard) moves)
    (cuts_over (length chart.signature.inputs) cuts (recursion_from_All IsCut cuts are) (recursion_from_All (λ cut. length cut.form.inputs ≡ length chart.signature.inputs) cuts widths))

-- each atom of a chart and cuts has one coefficient for each input
pub atoms_width : (chart : Chart) (cuts : List Comparison) (atoms : List Atom) → AreCuts cuts → All (λ cut. length cut.form.inputs ≡ length chart.signature.inputs) cuts → map inequality_of atoms ≡ atoms_in chart cuts → All (λ atom. length atom.coefficients ≡ length chart.signature.inputs) atoms
atoms_width chart cuts atoms are widths e =
    let over = each_of (Over (length chart.signature.inputs)) (IsOver (length chart.signature.inputs)) (atoms_over chart.memories) (guard_comparisons chart ++ cuts)
    (λ q is. over_width (length chart.signature.inputs) chart.memories q is.width) (all_over chart cuts are widths) in
    let all = added_width (length chart.signature.inputs) [] (flat_map (atoms_over chart.memories) (guard_comparisons chart ++ cuts)) tt over in
    All-from_recursion (λ atom. length atom.coefficients ≡ length chart.signature.inputs) atoms
    (unmap (Over (length chart.signature.inputs)) inequality_of atoms (subst (AllByRecursion (Over (length chart.signature.inputs))) (sym e) all))

both : (n : ℕ) (qs : List Comparison) → AllByRecursion (IsOver n) qs → AllByRecursion (λ q. AreWithin 1000000 q.form.inputs) qs → AllByRecursion IsFormOfAtoms qs
both n [] h k = tt
both n (q ∷ qs) h k = (record { moderate = h.0.moderate; small = k.0 }, both n qs h.1 k.1)

-- the comparisons of a chart and cuts have atoms where none of their coefficients is large
pub forms_of_atoms : (chart : Chart) (cuts : List Comparison) → AreCuts cuts → All (λ cut. length cut.form.inputs ≡ length chart.signature.inputs) cuts → list_any is_large (chart.assumed ++ (guard_comparisons chart ++ cuts)) ≡ false → All IsFormOfAtoms (guard_comparisons chart ++ cuts)
forms_of_atoms chart cuts are widths e =
    All-from_recursion IsFormOfAtoms (guard_comparisons chart ++ cuts)
    (both (length chart.signature.inputs) (guard_comparisons chart ++ cuts) (all_over chart cuts are widths) (small_parts chart.assumed (guard_comparisons chart ++ cuts) e))
