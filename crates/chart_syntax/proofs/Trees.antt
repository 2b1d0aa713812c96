-- The states of a chart, one declared after another.
use Rattle.std.proofs.Common.{◌≡◌, ℕ, zero, suc, ◌+◌, ◌<◌, ◌≤◌, Bool, true, false, cond, ◌&&◌, List, [], ◌∷◌, ◌++◌, length, Option, Some, None}
use Rattle.std.proofs.Common.{refl, sym, ◌∙◌, ap, subst, arith, ◌⊎◌, inl, inr}
use Rattle.std.specs.Prelude.{if◌then◌else◌, ◌==◌, slice_get, count_by}
use Rattle.std.specs.List.{list_any}
use Rattle.std.proofs.lemmas.Bool.Decides.{nat_tests}
use Rattle.std.proofs.lemmas.List.Sums.{sum_by-append}
use Rattle.chart_syntax.specs.declared.reader.DeclaredState.{DeclaredState}
use Rattle.chart_syntax.specs.declared.error.Kind.TheVariants as kind
use Rattle.chart_syntax.specs.declared.error.Refusal.TheVariants.{Fault}
use Rattle.chart_syntax.specs.Checks.{is_start_under, same_parent}
use Rattle.chart_syntax.specs.inside.Promises.{AreStates, has_depth}
use Rattle.chart_syntax.proofs.Fresh.{none_counted, if_none}

-- an element of a list with one more at its end is one of the list, or the last
pub pushed_at : {X : Type 0} (xs : List X) (x : X) (k : ℕ) (y : X) → slice_get (xs ++ x ∷ []) k ≡ Some y → (slice_get xs k ≡ Some y)
    ⊎ ((k ≡ length xs) × (x ≡ y))
pushed_at [] x zero y e = let same : x ≡ y = cc in inr (refl, same)
pushed_at [] x (suc k) y e = absurd (cc)
pushed_at (z ∷ xs) x zero y e = inl e
pushed_at (z ∷ xs) x (suc k) y e = elim (pushed_at xs x k y e) [ inl f ↦ inl f | inr f ↦ inr (ap suc f.0, f.1) ]

pub later_at : {X : Type 0} (xs : List X) (x : X) (k : ℕ) (y : X) → slice_get xs k ≡ Some y → slice_get (xs ++ x ∷ []) k ≡ Some y
later_at [] x k y e = absurd (cc)
later_at (z ∷ xs) x zero y e = e
later_at (z ∷ xs) x (suc k) y e = later_at xs x k y e

pub found_at : {X : Type 0} (xs : List X) (k : ℕ) → k < length xs → (y : X) × (slice_get xs k ≡ Some y)
found_at [] k h = absurd (omega arith)
found_at (x ∷ xs) zero h = (x, refl)
found_at (x ∷ xs) (suc k) h = found_at xs k (omega arith)

within_at : {X : Type 0} (xs : List X) (k : ℕ) (y : X) → slice_get xs k ≡ Some y → k < length xs
within_at [] k y e = absurd (cc)
within_at (x ∷ xs) zero y e = omega arith
within_at (x ∷ xs) (suc k) y e = let h = within_at xs k y e in omega (arith, h)

deeper : (states : List DeclaredState) (x state : DeclaredState) → has_depth states state → has_depth (states ++ x ∷ []) state
deeper states x state h = (h.0, h.1, λ parent e. let a = h.2 parent e in (a.0, later_at states x parent a.0 a.1, a.2))

parents_push : (states : List DeclaredState) (x : DeclaredState) → AreStates states
    → ((parent : ℕ) → x.parent ≡ Some parent → parent < length states) → (k parent : ℕ) (state : DeclaredState)
    → (slice_get states k ≡ Some state) ⊎ ((k ≡ length states) × (x ≡ state)) → state.parent ≡ Some parent → parent < k
parents_push states x tree new k parent state (inl e) h = tree.parents k parent state e h
parents_push states x tree new k parent state (inr e) h = subst (λ n. parent < n) (sym e.0) (new parent (ap (λ (s : DeclaredState). s.parent) e.1 ∙ h))

depths_push : (states : List DeclaredState) (x : DeclaredState) → AreStates states → has_depth states x → (k : ℕ) (state : DeclaredState)
    → (slice_get states k ≡ Some state) ⊎ ((k ≡ length states) × (x ≡ state)) → has_depth (states ++ x ∷ []) state
depths_push states x tree new k state (inl e) = deeper states x state (tree.depths k state e)
depths_push states x tree new k state (inr e) = subst (has_depth (states ++ x ∷ [])) e.1 (deeper states x x new)

same_number : (j k : ℕ) → (j == k) ≡ true → j ≡ k
same_number j k e = grind (arith, nat_tests)

same_parent_true : (a b : Option ℕ) → same_parent a b ≡ true → a ≡ b
same_parent_true None None e = refl
same_parent_true None (Some k) e = absurd (cc)
same_parent_true (Some j) None e = absurd (cc)
same_parent_true (Some j) (Some k) e = ap Some (same_number j k e)

and_true : (a b : Bool) → (a && b) ≡ true → (a ≡ true) × (b ≡ true)
and_true true b e = (refl, e)
and_true false b e = absurd (cc)

as_one : (b : Bool) → b ≡ true → cond {A = ℕ} b 1 0 ≡ 1
as_one true e = refl
as_one false e = absurd (cc)

as_none : (b : Bool) → b ≡ false → cond {A = ℕ} b 1 0 ≡ 0
as_none true e = absurd (cc)
as_none false e = refl

counted_push : (p : DeclaredState → Bool) (states : List DeclaredState) (x : DeclaredState)
    → count_by p (states ++ x ∷ []) ≡ count_by p states + (0 + cond (p x) 1 0)
counted_push p states x = sum_by-append (λ (state : DeclaredState). cond (p state) 1 0) states (x ∷ [])

start_if : (b : Bool) (states : List DeclaredState) (x : DeclaredState) → x.start ≡ b
    → (if b && list_any (is_start_under x.parent) states then Some (Fault kind.Start) else None) ≡ None → b ≡ true
    → list_any (is_start_under x.parent) states ≡ false
start_if true states x e h t = if_none (list_any (is_start_under x.parent) states) (Fault kind.Start) h
start_if false states x e h t = absurd (cc)

starts_if : (b : Bool) (parent : Option ℕ) (states : List DeclaredState) (x : DeclaredState) → is_start_under parent x ≡ b
    → (if x.start && list_any (is_start_under x.parent) states then Some (Fault kind.Start) else None) ≡ None
    → count_by (is_start_under parent) states ≤ 1 → count_by (is_start_under parent) (states ++ x ∷ []) ≤ 1
starts_if true parent states x e h one =
    let both = and_true x.start (same_parent x.parent parent) e in
    let same = same_parent_true x.parent parent both.1 in
    let none = none_counted (is_start_under x.parent) states (start_if x.start states x refl h both.0) in
    let zero_before : count_by (is_start_under parent) states ≡ 0 = subst (λ p. count_by (is_start_under p) states ≡ 0) same none in
    let c = counted_push (is_start_under parent) states x in
    let o = as_one (is_start_under parent x) e in
    omega (arith, zero_before, c, o)
starts_if false parent states x e h one =
    let c = counted_push (is_start_under parent) states x in
    let o = as_none (is_start_under parent x) e in
    omega (arith, c, o, one)

-- one more state keeps what states keep
pub states_push : (states : List DeclaredState) (x : DeclaredState) → AreStates states
    → ((parent : ℕ) → x.parent ≡ Some parent → parent < length states) → has_depth states x
    → (if x.start && list_any (is_start_under x.parent) states then Some (Fault kind.Start) else None) ≡ None → AreStates (states ++ x ∷ [])
states_push states x tree parents depth begins = record {
  parents = λ k parent state e h. parents_push states x tree parents k parent state (pushed_at states x k state e) h;
  depths = λ k state e. depths_push states x tree depth k state (pushed_at states x k state e);
  starts = λ parent. starts_if (is_start_under parent x) parent states x refl begins (tree.starts parent);
}
