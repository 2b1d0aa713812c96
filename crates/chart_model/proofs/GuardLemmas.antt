-- What callers know of a chart's guards.
use Rattle.std.proofs.Common.{◌≡◌, ℕ, ℤ, not, ◌&&◌, ◌||◌, List, [], ◌∷◌, ◌++◌, ap}
use Rattle.std.specs.List.{All}
use Rattle.std.proofs.lemmas.List.Elements.{All-nil, All-cons, All-head, All-tail, All-weaker}
use Rattle.lin_form.specs.declared.form.Comparison.{Comparison}
use Rattle.lin_form.specs.Form.{truth_of}
use Rattle.lin_form.specs.Trees.{Tree}
use Rattle.lin_form.specs.Trees as tree
use Rattle.chart_model.specs.Guard.{IsReadable, IsReadableGuard, comparisons_of, truth_of_guard}
use Rattle.chart_model.specs.Chart.{IsGuard, IsFormOver}

-- what holds of each element of two lists in a row holds of each of the first, and of each of the second
pub All-front : {X : Type 0} (P : X → Type 0) → (xs ys : List X) → All P (xs ++ ys) → All P xs
All-front P [] ys h = All-nil P
All-front P (x ∷ xs) ys h = All-cons P x xs (All-head P x (xs ++ ys) h) (All-front P xs ys (All-tail P x (xs ++ ys) h))

pub All-back : {X : Type 0} (P : X → Type 0) → (xs ys : List X) → All P (xs ++ ys) → All P ys
All-back P [] ys h = h
All-back P (x ∷ xs) ys h = All-back P xs ys (All-tail P x (xs ++ ys) h)

pub readable_each : (numbers : ℕ) (guard : Tree Comparison) → All (IsReadable numbers) (comparisons_of guard) → IsReadableGuard numbers guard
readable_each numbers (tree.test comparison) h = All-head (IsReadable numbers) comparison [] h
readable_each numbers (tree.not guard) h = readable_each numbers guard h
readable_each numbers (tree.and left right) h = (
  readable_each numbers left (All-front (IsReadable numbers) (comparisons_of left) (comparisons_of right) h),
  readable_each numbers right (All-back (IsReadable numbers) (comparisons_of left) (comparisons_of right) h),
)
readable_each numbers (tree.or left right) h = (
  readable_each numbers left (All-front (IsReadable numbers) (comparisons_of left) (comparisons_of right) h),
  readable_each numbers right (All-back (IsReadable numbers) (comparisons_of left) (comparisons_of right) h),
)

-- a guard that a chart keeps can be read on the vectors of its inputs
pub readable_guard : (inputs memories : ℕ) (guard : Tree Comparison) → IsGuard inputs memories guard → IsReadableGuard inputs guard
readable_guard inputs memories guard kept =
    readable_each inputs guard
    (All-weaker (λ c. IsFormOver inputs memories c.form) (IsReadable inputs)
    (λ c h. record { moderate = h.moderate; inputs = h.each_input }) (comparisons_of guard) kept.forms)

-- a guard's truth follows from those of its comparisons
pub truth_of_guard-same : (guard : Tree Comparison) (x y memory : List ℤ)
    → All (λ c. truth_of c x memory ≡ truth_of c y memory) (comparisons_of guard)
    → truth_of_guard guard x memory ≡ truth_of_guard guard y memory
truth_of_guard-same (tree.test comparison) x y memory h = All-head (λ c. truth_of c x memory ≡ truth_of c y memory) comparison [] h
truth_of_guard-same (tree.not guard) x y memory h = ap not (truth_of_guard-same guard x y memory h)
truth_of_guard-same (tree.and left right) x y memory h =
    let P : Comparison → Type 0 = λ c. truth_of c x memory ≡ truth_of c y memory in
    let p = truth_of_guard-same left x y memory (All-front P (comparisons_of left) (comparisons_of right) h) in
    let q = truth_of_guard-same right x y memory (All-back P (comparisons_of left) (comparisons_of right) h) in
    λ i. p i && q i
truth_of_guard-same (tree.or left right) x y memory h =
    let P : Comparison → Type 0 = λ c. truth_of c x memory ≡ truth_of c y memory in
    let p = truth_of_guard-same left x y memory (All-front P (comparisons_of left) (comparisons_of right) h) in
    let q = truth_of_guard-same right x y memory (All-back P (comparisons_of left) (comparisons_of right) h) in
    λ i. p i || q i
