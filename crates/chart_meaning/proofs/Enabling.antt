-- Guards over a configuration's array of memories, and which transitions are enabled.
use Rattle.std.proofs.Common.{◌≡◌, ℕ, ◌+◌, ◌-◌, ◌<◌, Bool, true, not, ◌&&◌, ◌||◌, List, ◌++◌, length, Option, None, Some, ℤ, pos, ◌+ℤ◌, refl, ap}
use Rattle.std.proofs.Common.{sym, subst, ◌∙◌, arith}
use Rattle.std.specs.List.{All}
use Rattle.std.specs.Option.{option_map_or}
use Rattle.std.proofs.lemmas.List.{get_or_append_left, get_or-append-add, length-append}
use Rattle.lin_form.specs.declared.form.Comparison.{Comparison}
use Rattle.lin_form.specs.Form.{relates, sum_of_products, truth_of}
use Rattle.lin_form.specs.Padded.{padded}
use Rattle.lin_form.specs.Trees.{Tree}
use Rattle.lin_form.specs.Trees as tree
use Rattle.chart_model.specs.Guard.{comparisons_of, truth_of_guard, IsReadableGuard}
use Rattle.chart_model.specs.Chart.{IsFormOver}
use Rattle.chart_model.specs.declared.transition.Transition.{Transition}
use Rattle.chart_meaning.specs.Step.{is_guard_true}
use Rattle.chart_meaning.proofs.Acting.{sum_of_products-zeros_after}

All-left : {X : Type 0} (P : X → Type 0) (xs ys : List X) → All P (xs ++ ys) → All P xs
All-left P xs ys all k d h = let n = length-append xs ys in let less : k < length (xs ++ ys) =
    omega arith in subst P (get_or_append_left xs ys d k h) (all k d less)

All-right : {X : Type 0} (P : X → Type 0) (xs ys : List X) → All P (xs ++ ys) → All P ys
All-right P xs ys all k d h = let n = length-append xs ys in let less : length xs + k < length (xs ++ ys) =
    omega arith in subst P (get_or-append-add xs ys k d) (all (length xs + k) d less)

-- the guard of a chart's transition can be read on the vectors of the chart
pub IsReadableGuard-over : (guard : Tree Comparison) (inputs memories numbers : ℕ) → inputs ≡ numbers
    → All (λ comparison. IsFormOver inputs memories comparison.form) (comparisons_of guard)
    → IsReadableGuard numbers guard
IsReadableGuard-over (tree.test comparison) inputs memories numbers e all = let f =
    all 0 comparison (omega arith) in record { moderate = f.moderate; inputs = f.each_input ∙ e }
IsReadableGuard-over (tree.not guard) inputs memories numbers e all = IsReadableGuard-over guard inputs memories numbers e all
IsReadableGuard-over (tree.and left right) inputs memories numbers e all = (
  IsReadableGuard-over left inputs memories numbers e
      (All-left (λ (comparison : Comparison). IsFormOver inputs memories comparison.form) (comparisons_of left)
      (comparisons_of right) all),
  IsReadableGuard-over right inputs memories numbers e
      (All-right (λ (comparison : Comparison). IsFormOver inputs memories comparison.form) (comparisons_of left)
      (comparisons_of right) all),
)
IsReadableGuard-over (tree.or left right) inputs memories numbers e all = (
  IsReadableGuard-over left inputs memories numbers e
      (All-left (λ (comparison : Comparison). IsFormOver inputs memories comparison.form) (comparisons_of left)
      (comparisons_of right) all),
  IsReadableGuard-over right inputs memories numbers e
      (All-right (λ (comparison : Comparison). IsFormOver inputs memories comparison.form) (comparisons_of left)
      (comparisons_of right) all),
)

truth_of-padded : (comparison : Comparison) (vector memory : List ℤ) → truth_of comparison vector (padded (pos 0) 4 memory) ≡ truth_of comparison vector memory
truth_of-padded comparison vector memory =
    ap (λ z. relates comparison.relation
    (sum_of_products comparison.form.inputs vector +ℤ z +ℤ comparison.form.constant))
    (sum_of_products-zeros_after comparison.form.memory memory (4 - length memory))

truth_of_guard-padded : (guard : Tree Comparison) (vector memory : List ℤ)
    → truth_of_guard guard vector (padded (pos 0) 4 memory) ≡ truth_of_guard guard vector memory
truth_of_guard-padded (tree.test comparison) vector memory = truth_of-padded comparison vector memory
truth_of_guard-padded (tree.not guard) vector memory = ap not (truth_of_guard-padded guard vector memory)
truth_of_guard-padded (tree.and left right) vector memory = λ i. truth_of_guard-padded left vector memory i && truth_of_guard-padded right vector memory i
truth_of_guard-padded (tree.or left right) vector memory = λ i. truth_of_guard-padded left vector memory i || truth_of_guard-padded right vector memory i

guard-padded : (vector memory : List ℤ) (guard : Option (Tree Comparison))
    → option_map_or (λ t. truth_of_guard t vector (padded (pos 0) 4 memory)) guard true
    ≡ option_map_or (λ t. truth_of_guard t vector memory) guard true
guard-padded vector memory None = refl
guard-padded vector memory (Some guard) = truth_of_guard-padded guard vector memory

-- whether a transition's guard holds, by the array of memories
pub is_guard_true-places : (vector memory places : List ℤ) (transition : Transition) (holds : Bool)
    → places ≡ padded (pos 0) 4 memory → holds ≡ is_guard_true vector places transition
    → is_guard_true vector memory transition ≡ holds
is_guard_true-places vector memory places transition holds e h =
    sym (h ∙ ap (λ values. is_guard_true vector values transition) e ∙ guard-padded vector memory transition.guard)
