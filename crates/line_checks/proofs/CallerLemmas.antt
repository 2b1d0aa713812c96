-- What the forms of sums and guards keep, for the readers of a format.
use Rattle.std.proofs.Common.{◌≡◌, ℕ, zero, suc, ◌≤◌, ℤ, pos, Bool, false, List, [], ◌∷◌, length, take, Option, Some, None, refl, sym, ◌∙◌, subst}
use Rattle.std.specs.Prelude.{replicate, option_and_then}
use Rattle.std.proofs.lemmas.List.Elements.{All-nil, All-cons}
use Rattle.chart_model.specs.Chart.{IsFormOver, IsGuard, AreZero}
use Rattle.line_forms.specs.declared.statement.SignedTerm.{SignedTerm}
use Rattle.line_forms.specs.declared.statement.TestForm.{TestForm}
use Rattle.line_forms.specs.Limits.{AreSmallTerms, IsSmallTest, IsSmallGuard}
use Rattle.line_forms.specs.Trees.{Tree, tests_of}
use Rattle.line_checks.specs.declared.scope.Variable.{Variable}
use Rattle.line_checks.specs.declared.scope.Variable.TheVariants.{Input, Memory}
use Rattle.line_checks.specs.declared.sum.Sum.{Sum}
use Rattle.line_checks.specs.Names.{Names, place_of, variable_in, variable_of}
use Rattle.line_checks.specs.Sums.{name_of_term, factor_of, signed, is_negative, variable_of_term, with_value, add_term, collect, nothing}
use Rattle.line_checks.specs.Sums.{comparison_of, value_form_of}
use Rattle.line_checks.specs.Guards.{guard_of}
use Rattle.line_checks.proofs.Moderate.{comparison_over, value_over}
use Rattle.line_checks.proofs.Kept.{guard_fits}

-- the form of a comparison is over the inputs, and over the memories in scope
pub comparison_fits : (s : Names) (width : ℕ) (t : TestForm) → width ≤ 6 → IsSmallTest t
    → IsFormOver width (length s.memories) (comparison_of s width t).form
comparison_fits s width t few small = comparison_over s width t few small

-- so is that of an action's value
pub value_fits : (s : Names) (width : ℕ) (terms : List SignedTerm) → width ≤ 6 → length terms ≤ 512 → AreSmallTerms terms
    → IsFormOver width (length s.memories) (value_form_of s width terms)
value_fits s width terms few short small = value_over s width terms few short small

-- a guard with at most 64 comparisons is small, and so are its forms
pub guard_is_small : (s : Names) (width : ℕ) (g : Tree) → width ≤ 6 → IsSmallGuard g → tests_of g ≤ 64
    → IsGuard width (length s.memories) (guard_of s width g)
guard_is_small s width g few small tests = guard_fits s width g few small tests

no_input : (o : Option ℕ) (i : ℕ) → variable_in None o ≡ Some (Input i) → ⊥
no_input (Some j) i e = cc
no_input None i e = cc

-- the names of memories alone
abbrev without_inputs : List (List ℕ) → List (List ℕ) → Names
without_inputs memories misused = record { inputs = []; memories = memories; misused = misused }

no_input_of : (memories misused : List (List ℕ)) (o : Option (List ℕ)) (i : ℕ)
    → option_and_then (variable_of (without_inputs memories misused)) o ≡ Some (Input i) → ⊥
no_input_of memories misused None i e = absurd (cc)
no_input_of memories misused (Some name) i e = no_input (place_of name memories) i e

kept_inputs : (v : Option Variable) (z : ℤ) (sum : Sum) → ((i : ℕ) → v ≡ Some (Input i) → ⊥) → (with_value v z sum).inputs ≡ sum.inputs
kept_inputs None z sum h = refl
kept_inputs (Some (Input i)) z sum h = absurd (h i refl)
kept_inputs (Some (Memory j)) z sum h = refl

inputs_collect : (memories misused : List (List ℕ)) (subtracted : Bool) (sum : Sum) (terms : List SignedTerm)
    → (collect (without_inputs memories misused) subtracted sum terms).inputs ≡ sum.inputs
inputs_collect memories misused subtracted sum [] = refl
inputs_collect memories misused subtracted sum (t ∷ terms) =
    let s = without_inputs memories misused in
    inputs_collect memories misused subtracted (add_term s subtracted sum t) terms
    ∙ kept_inputs (variable_of_term s t.term) (signed (is_negative subtracted t.negated) (factor_of t.term)) sum
    (no_input_of memories misused (name_of_term t.term))

zeros_taken : (m n : ℕ) → AreZero (take m (replicate n (pos 0)))
zeros_taken zero n = All-nil (λ z. z ≡ pos 0)
zeros_taken (suc m) zero = All-nil (λ z. z ≡ pos 0)
zeros_taken (suc m) (suc n) = All-cons (λ z. z ≡ pos 0) (pos 0) (take m (replicate n (pos 0))) refl (zeros_taken m n)

-- a sum over memories alone has no input
pub value_without_inputs : (memories misused : List (List ℕ)) (width : ℕ) (terms : List SignedTerm)
    → AreZero (value_form_of (record { inputs = []; memories = memories; misused = misused }) width terms).inputs
value_without_inputs memories misused width terms =
    subst (λ xs. AreZero (take width xs)) (sym (inputs_collect memories misused false nothing terms)) (zeros_taken width 6)
