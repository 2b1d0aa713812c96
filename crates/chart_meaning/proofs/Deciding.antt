-- A step depends on a vector only through the truths of the guards.
use Rattle.std.proofs.Common.{◌≡◌, ℕ, ◌+◌, Bool, true, false, not, ◌&&◌, ◌==◌, List, [], ◌∷◌, ℤ, Option, Some, ap, refl, sym, ◌∙◌, arith}
use Rattle.std.specs.Prelude.{cond, find}
use Rattle.std.specs.List.{All, AllByRecursion, position_or_len}
use Rattle.std.specs.Option.{option_map_or, option_or}
use Rattle.std.proofs.lemmas.List.Elements.{recursion_from_All}
use Rattle.std.proofs.lemmas.Option.{same_Some}
use Rattle.chart_model.specs.declared.chart.Chart.{Chart}
use Rattle.chart_model.specs.declared.transition.Transition.{Transition}
use Rattle.chart_meaning.specs.Configuration.{Configuration}
use Rattle.subject.specs.Meaning.{IsBranchOf}
use Rattle.chart_meaning.specs.Plan.{branch_of, branches_of_chart, plan_of_chart}
use Rattle.chart_meaning.specs.Rows.{candidates}
use Rattle.chart_meaning.specs.Step.{active_states, firing, is_enabled_in, is_guard_true, next_of, take_transition}
use Rattle.chart_meaning.proofs.Listing.{find-candidates}

find_alike : (x y memory : List ℤ) (s : ℕ) (transitions : List Transition)
    → AllByRecursion (λ t. is_guard_true x memory t ≡ is_guard_true y memory t) transitions
    → find (is_enabled_in x memory s) transitions ≡ find (is_enabled_in y memory s) transitions
find_alike x y memory s [] h = refl
find_alike x y memory s (t ∷ transitions) h = λ i. cond (t.source == s && h.0 i) (Some t) (find_alike x y memory s transitions h.1 i)

firing_alike : (x y memory : List ℤ) (transitions : List Transition) (states : List ℕ)
    → All (λ t. is_guard_true x memory t ≡ is_guard_true y memory t) transitions → firing transitions x memory states
    ≡ firing transitions y memory states
firing_alike x y memory transitions [] h = refl
firing_alike x y memory transitions (s ∷ outer) h =
    λ i. option_or (find_alike x y memory s transitions (recursion_from_All _ transitions h) i)
    (firing_alike x y memory transitions outer h i)

-- where every guard has the same truth on two vectors, they lead to the same configuration
pub next_of-alike : (chart : Chart) (c : Configuration) (x y : List ℤ)
    → All (λ t. is_guard_true x c.memory t ≡ is_guard_true y c.memory t) chart.transitions
    → next_of chart c x ≡ next_of chart c y
next_of-alike chart c x y h =
    ap (λ o. option_map_or (λ t. take_transition chart t c) o c)
    (firing_alike x y c.memory chart.transitions (active_states chart.states c) h)

found_alike : {X : Type 0} (b d : Bool) (x : X) (m n : ℕ) (a e : Option X) → cond (not b) (1 + m) 0 ≡ cond (not d) (1 + n) 0
    → (m ≡ n → a ≡ e) → cond b (Some x) a ≡ cond d (Some x) e
found_alike true true x m n a e same rest = refl
found_alike true false x m n a e same rest = absurd (omega (arith, same))
found_alike false true x m n a e same rest = absurd (omega (arith, same))
found_alike false false x m n a e same rest = rest (omega (arith, same))

-- where the first that passes stands at the same place, it is the same
find_by_place : {X : Type 0} (p q : X → Bool) (xs : List X) → position_or_len p xs ≡ position_or_len q xs → find p xs ≡ find q xs
find_by_place p q [] e = refl
find_by_place p q (x ∷ xs) e =
    found_alike (p x) (q x) x (position_or_len p xs) (position_or_len q xs) (find p xs) (find q xs) e (find_by_place p q xs)

-- where the branch is the same, two vectors lead to the same configuration
pub next_of-branch : (chart : Chart) (c : Configuration) (x y : List ℤ) → branch_of chart c x ≡ branch_of chart c y
    → next_of chart c x ≡ next_of chart c y
next_of-branch chart c x y e =
    let way = active_states chart.states c in
    ap (λ o. option_map_or (λ t. take_transition chart t c) o c)
    (sym (find-candidates chart.transitions x c.memory way)
    ∙ find_by_place (is_guard_true x c.memory) (is_guard_true y c.memory) (candidates chart.transitions way) e
    ∙ find-candidates chart.transitions y c.memory way)

-- a branch of a configuration
pub IsBranchOf-chart : (chart : Chart) (c : Configuration) (k : ℕ) → IsBranchOf (plan_of_chart chart) (branches_of_chart chart) c k
IsBranchOf-chart chart c k x y fits_x fits_y at_x at_y =
    let same = next_of-branch chart c x y (same_Some (branch_of chart c x) (branch_of chart c y) (at_x ∙ sym at_y)) in
    (same, ap (λ (d : Configuration). d.outputs) same)
