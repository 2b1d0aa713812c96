-- What the forms, actions and guards that are collected keep.
use Rattle.std.proofs.Common.{◌≡◌, ℕ, ◌<◌, ◌≤◌, ℤ, pos, Bool, true, false, List, [], ◌∷◌, ◌++◌, length, Option, Some, None, refl, subst, arith}
use Rattle.std.specs.Prelude.{nat_lt, unwrap_or}
use Rattle.std.specs.List.{All, list_all}
use Rattle.std.proofs.lemmas.Bool.Decides.{nat_tests}
use Rattle.std.proofs.lemmas.List.{length-map}
use Rattle.std.proofs.lemmas.List.Elements.{All-nil, All-cons, All-head, All-tail}
use Rattle.std.proofs.lemmas.List.Quantifiers.{position-Some}
use Rattle.line_forms.specs.declared.statement.TestForm.{TestForm}
use Rattle.line_forms.specs.declared.statement.ActionForm.{ActionForm}
use Rattle.line_forms.specs.Trees.{Tree, tests_of}
use Rattle.line_forms.specs.Limits.{IsSmallTest, IsSmallAction, IsSmallGuard}
use Rattle.chart_model.specs.Chart.{IsFormOver, IsAction, IsGuard, AreZero, is_declared}
use Rattle.chart_model.specs.declared.action.Place.TheVariants as place
use Rattle.line_checks.specs.Names.{is_same, place_of, use_check}
use Rattle.line_checks.specs.Names as named
use Rattle.line_checks.specs.Sums.{sum_check, value_form_of}
use Rattle.line_checks.specs.Guards.{guard_of}
use Rattle.line_checks.proofs.CallerLemmas.{comparison_fits, value_fits, guard_is_small, value_without_inputs}
use Rattle.chart_syntax.specs.declared.reader.Reader.{Reader}
use Rattle.chart_syntax.specs.Scopes.{input_names, output_names, memory_names, guard_scope, assumption_scope, action_scope, assumption_of, told}
use Rattle.chart_syntax.specs.Checks.{action_of, actions_of, place_in, place_of_name, place_check, action_check, actions_check, is_zero}
use Rattle.chart_syntax.specs.inside.Promises.{HasFew, AreActions}
use Rattle.chart_syntax.proofs.CallerLemmas.{or_none}
use Rattle.chart_syntax.proofs.Fresh.{told_none}

-- the number of a name that is found is below that of all names
pub place_below : (name : List ℕ) (names : List (List ℕ)) (i : ℕ) → place_of name names ≡ Some i → i < length names
place_below name names i e = (position-Some (is_same name) names i [] e).0

memories_below : (s : Reader) (name : List ℕ) (j : ℕ) → place_of name (memory_names s) ≡ Some j → j < length s.memories
memories_below s name j e = let h = place_below name (memory_names s) j e in subst (λ n. j < n) (length-map s.memories (λ form. form.name)) h

outputs_below : (s : Reader) (name : List ℕ) (k : ℕ) → place_of name (output_names s) ≡ Some k → k < length s.outputs
outputs_below s name k e = let h = place_below name (output_names s) k e in subst (λ n. k < n) (length-map s.outputs (λ form. form.name)) h

below_test : (n m : ℕ) → n < m → nat_lt n m ≡ true
below_test n m h = grind (arith, nat_tests)

placed : (m o : Option ℕ) (memories outputs : ℕ) (misused : Bool) → ((j : ℕ) → m ≡ Some j → j < memories) → ((k : ℕ) → o ≡ Some k → k < outputs)
    → use_check (place_in m o) misused ≡ None → is_declared memories outputs (unwrap_or (place_in m o) (place.Output 0)) ≡ true
placed (Some j) o memories outputs misused h g e = below_test j memories (h j refl)
placed None (Some k) memories outputs misused h g e = below_test k outputs (g k refl)
placed None None memories outputs true h g e = absurd (cc)
placed None None memories outputs false h g e = absurd (cc)

pub good_action : (s : Reader) (a : ActionForm) → HasFew s → IsSmallAction a → action_check s a ≡ None
    → IsAction (length s.inputs) (length s.memories) (length s.outputs) (action_of s a)
good_action s a few small passes =
    let h = or_none (place_check s a.name) (told (sum_check (action_scope s) a.sum)) passes in
    let misused = named.has_name a.name (input_names s) in
    let width = length s.inputs in
    record {
      place = placed (place_of a.name (memory_names s)) (place_of a.name (output_names s)) (length s.memories) (length s.outputs)
          misused (memories_below s a.name) (outputs_below s a.name) (told_none (use_check (place_of_name s a.name) misused) h.0);
      value = subst (λ n. IsFormOver width n (value_form_of (action_scope s) width a.sum)) (length-map s.memories (λ form. form.name))
          (value_fits (action_scope s) width a.sum few.inputs small.few small.terms);
      no_inputs = value_without_inputs (memory_names s) (input_names s ++ output_names s) width a.sum;
    }

pub good_actions : (s : Reader) (forms : List ActionForm) → HasFew s → All IsSmallAction forms → actions_check s forms ≡ None
    → AreActions (length s.inputs) (length s.memories) (length s.outputs) (actions_of s forms)
good_actions s [] few small passes = All-nil (IsAction (length s.inputs) (length s.memories) (length s.outputs))
good_actions s (a ∷ more) few small passes =
    let h = or_none (action_check s a) (actions_check s more) passes in
    All-cons (IsAction (length s.inputs) (length s.memories) (length s.outputs)) (action_of s a) (actions_of s more)
    (good_action s a few (All-head IsSmallAction a more small) h.0) (good_actions s more few (All-tail IsSmallAction a more small) h.1)

pub good_guard : (s : Reader) (g : Tree) → HasFew s → IsSmallGuard g → tests_of g ≤ 64
    → IsGuard (length s.inputs) (length s.memories) (guard_of (guard_scope s) (length s.inputs) g)
good_guard s g few small tests =
    let width = length s.inputs in
    subst (λ n. IsGuard width n (guard_of (guard_scope s) width g)) (length-map s.memories (λ form. form.name))
    (guard_is_small (guard_scope s) width g few.inputs small tests)

all_zero_passes : (xs : List ℤ) → AreZero xs → list_all is_zero xs ≡ true
all_zero_passes [] h = refl
all_zero_passes (x ∷ xs) h = rw (All-head (λ z. z ≡ pos 0) x xs h) (all_zero_passes xs (All-tail (λ z. z ≡ pos 0) x xs h))

-- a form that is not constant has an input
pub not_constant : (xs : List ℤ) → list_all is_zero xs ≡ false → AreZero xs → ⊥
not_constant xs e h = let t = all_zero_passes xs h in cc

pub assumption_form : (s : Reader) (t : TestForm) → HasFew s → IsSmallTest t → IsFormOver (length s.inputs) 0 (assumption_of s t).form
assumption_form s t few small = comparison_fits (assumption_scope s) (length s.inputs) t few.inputs small
