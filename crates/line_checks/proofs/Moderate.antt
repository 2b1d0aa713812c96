-- What the forms that are collected keep.
use Rattle.std.proofs.Common.{◌≡◌, ℕ, zero, suc, ◌<◌, ◌≤◌, pos, Bool, true, false, List, [], ◌∷◌, length, drop, Option, Some, None, refl, sym}
use Rattle.std.proofs.Common.{◌∙◌, subst, arith}
use Rattle.std.specs.Prelude.{ℤ, ◌+ℤ◌, unsigned_abs, replicate, slice_index_or, option_and_then}
use Rattle.std.proofs.lemmas.List.{length-take-le, length-set, drop-set-lt}
use Rattle.std.proofs.lemmas.List.Elements.{All-nil, All-cons}
use Rattle.std.proofs.lemmas.List.Sums.{sum_by-take-le}
use Rattle.std.proofs.lemmas.List.Quantifiers.{position-Some}
use Rattle.lin_form.specs.Form.{IsModerate}
use Rattle.chart_model.specs.Chart.{IsFormOver, AreZero}
use Rattle.line_forms.specs.declared.statement.SignedTerm.{SignedTerm}
use Rattle.line_forms.specs.declared.statement.TestForm.{TestForm}
use Rattle.line_forms.specs.Limits.{AreSmallTerms, IsSmallTest}
use Rattle.line_checks.specs.declared.scope.Variable.{Variable}
use Rattle.line_checks.specs.declared.scope.Variable.TheVariants.{Input, Memory}
use Rattle.line_checks.specs.declared.sum.Sum.{Sum}
use Rattle.line_checks.specs.Names.{Names, is_same, place_of, variable_in, variable_of}
use Rattle.line_checks.specs.Sums.{name_of_term, factor_of, signed, is_negative, variable_of_term, with_value, add_term, collect, nothing}
use Rattle.line_checks.specs.Sums.{form_of, comparison_of, value_form_of}
use Rattle.line_checks.specs.inside.Weight.{weight}
use Rattle.line_checks.proofs.Sums.{weight_collect}

-- the number of a name that is found is below that of all names
place_below : (name : List ℕ) (names : List (List ℕ)) (i : ℕ) → place_of name names ≡ Some i → i < length names
place_below name names i e = (position-Some (is_same name) names i [] e).0

memory_of : (input memory : Option ℕ) (j : ℕ) → variable_in input memory ≡ Some (Memory j) → memory ≡ Some j
memory_of (Some i) memory j e = absurd (cc)
memory_of None (Some k) j e = cc
memory_of None None j e = absurd (cc)

memories_below : (s : Names) (o : Option (List ℕ)) (j : ℕ) → option_and_then (variable_of s) o ≡ Some (Memory j) → j < length s.memories
memories_below s None j e = absurd (cc)
memories_below s (Some name) j e = place_below name s.memories j (memory_of (place_of name s.inputs) (place_of name s.memories) j e)

length_with : (v : Option Variable) (z : ℤ) (sum : Sum) → length (with_value v z sum).inputs ≡ length sum.inputs
length_with None z sum = refl
length_with (Some (Input i)) z sum = length-set sum.inputs i (slice_index_or sum.inputs i (pos 0) +ℤ z)
length_with (Some (Memory j)) z sum = refl

length_collect : (s : Names) (subtracted : Bool) (sum : Sum) (terms : List SignedTerm) → length (collect s subtracted sum terms).inputs ≡ length sum.inputs
length_collect s subtracted sum [] = refl
length_collect s subtracted sum (t ∷ terms) =
    length_collect s subtracted (add_term s subtracted sum t) terms
    ∙ length_with (variable_of_term s t.term) (signed (is_negative subtracted t.negated) (factor_of t.term)) sum

kept_memory : (n : ℕ) (v : Option Variable) (z : ℤ) (sum : Sum) → ((j : ℕ) → v ≡ Some (Memory j) → j < n)
    → drop n (with_value v z sum).memory ≡ drop n sum.memory
kept_memory n None z sum h = refl
kept_memory n (Some (Input i)) z sum h = refl
kept_memory n (Some (Memory j)) z sum h = drop-set-lt n sum.memory j (slice_index_or sum.memory j (pos 0) +ℤ z) (h j refl)

-- no memory beyond those of the scope has a coefficient
memory_collect : (s : Names) (subtracted : Bool) (sum : Sum) (terms : List SignedTerm)
    → drop (length s.memories) (collect s subtracted sum terms).memory ≡ drop (length s.memories) sum.memory
memory_collect s subtracted sum [] = refl
memory_collect s subtracted sum (t ∷ terms) =
    memory_collect s subtracted (add_term s subtracted sum t) terms
    ∙ kept_memory (length s.memories) (variable_of_term s t.term) (signed (is_negative subtracted t.negated) (factor_of t.term)) sum
    (memories_below s (name_of_term t.term))

all_zero : (k : ℕ) → AreZero (replicate k (pos 0))
all_zero zero = All-nil (λ z. z ≡ pos 0)
all_zero (suc k) = All-cons (λ z. z ≡ pos 0) (pos 0) (replicate k (pos 0)) refl (all_zero k)

zeros_left : (m n : ℕ) → AreZero (drop m (replicate n (pos 0)))
zeros_left zero n = all_zero n
zeros_left (suc m) zero = All-nil (λ z. z ≡ pos 0)
zeros_left (suc m) (suc n) = zeros_left m n

-- the form of a light sum is moderate
light_form : (width : ℕ) (sum : Sum) → weight sum ≤ 512000000 → IsModerate (form_of width sum)
light_form width sum light = record {
  constant = omega (arith, light);
  memory = omega (arith, light);
  inputs = let l = sum_by-take-le unsigned_abs sum.inputs width in omega (arith, light, l);
}

collected_form : (width n : ℕ) (sum : Sum) → width ≤ 6 → weight sum ≤ 512000000 → length sum.inputs ≡ 6
    → drop n sum.memory ≡ drop n nothing.memory → IsFormOver width n (form_of width sum)
collected_form width n sum few light six kept = record {
  moderate = light_form width sum light;
  each_input = length-take-le width sum.inputs (omega (arith, few, six));
  undeclared = subst AreZero (sym kept) (zeros_left n 4);
}

pub comparison_over : (s : Names) (width : ℕ) (t : TestForm) → width ≤ 6 → IsSmallTest t → IsFormOver width (length s.memories) (comparison_of s width t).form
comparison_over s width t few small =
    let left = collect s false nothing t.left in
    let sum = collect s true left t.right in
    let a = weight_collect s false nothing t.left small.left in
    let b = weight_collect s true left t.right small.right in
    let k = small.few in
    collected_form width (length s.memories) sum few (omega (arith, a, b, k)) (length_collect s true left t.right ∙ length_collect s false nothing t.left)
    (memory_collect s true left t.right ∙ memory_collect s false nothing t.left)

pub value_over : (s : Names) (width : ℕ) (terms : List SignedTerm) → width ≤ 6 → length terms ≤ 512 → AreSmallTerms terms
    → IsFormOver width (length s.memories) (value_form_of s width terms)
value_over s width terms few short small =
    let a = weight_collect s false nothing terms small in
    collected_form width (length s.memories) (collect s false nothing terms) few (omega (arith, a, short)) (length_collect s false nothing terms)
    (memory_collect s false nothing terms)
