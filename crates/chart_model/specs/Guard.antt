-- The truth of a guard, and the comparisons in it.
use Rattle.std.specs.Prelude.{◌≡◌, ℕ, ◌+◌, max, ℤ, pos, Bool, not, ◌&&◌, ◌||◌, List, [], ◌∷◌, ◌++◌, length}
use Rattle.std.specs.Coded.{Coded}
use Rattle.lin_form.specs.declared.form.Comparison.{Comparison}
use Rattle.lin_form.specs.Form.{IsModerate, truth_of}
use Rattle.lin_form.specs.declared.form.Relation.TheVariants as relation
use Rattle.lin_form.specs.contracts.form.Comparison as stored
use Rattle.lin_form.specs.Trees.{Tree, tree_code}
use Rattle.lin_form.specs.Trees as tree
use Rattle.chart_model.specs.declared.guard.Guard.{Guard, Test, Not', And', Or'}

-- the tree of a guard, wherever it lies in memory
abbrev pub plain : Guard → Tree Comparison
plain (Test comparison) = tree.test comparison
plain (Not' p guard) = tree.not (plain guard)
plain (And' p left q right) = tree.and (plain left) (plain right)
plain (Or' p left q right) = tree.or (plain left) (plain right)

-- the code by which a proof tells guards apart
abbrev pub guard_code : Coded (Tree Comparison)
guard_code = tree_code (record { form = record { inputs = []; memory = []; constant = pos 0 }; relation = relation.Less }) stored.the_row.coded

abbrev pub truth_of_guard : Tree Comparison → List ℤ → List ℤ → Bool
truth_of_guard (tree.test comparison) vector memory = truth_of comparison vector memory
truth_of_guard (tree.not guard) vector memory = not (truth_of_guard guard vector memory)
truth_of_guard (tree.and left right) vector memory = truth_of_guard left vector memory && truth_of_guard right vector memory
truth_of_guard (tree.or left right) vector memory = truth_of_guard left vector memory || truth_of_guard right vector memory

-- the comparisons of a guard in written order
abbrev pub comparisons_of : Tree Comparison → List Comparison
comparisons_of (tree.test comparison) = comparison ∷ []
comparisons_of (tree.not guard) = comparisons_of guard
comparisons_of (tree.and left right) = comparisons_of left ++ comparisons_of right
comparisons_of (tree.or left right) = comparisons_of left ++ comparisons_of right

-- how deep a guard is nested, where a comparison alone has depth 1
abbrev pub depth_of_guard : Tree Comparison → ℕ
depth_of_guard (tree.test comparison) = 1
depth_of_guard (tree.not guard) = depth_of_guard guard + 1
depth_of_guard (tree.and left right) = max (depth_of_guard left) (depth_of_guard right) + 1
depth_of_guard (tree.or left right) = max (depth_of_guard left) (depth_of_guard right) + 1

-- a comparison can be read on vectors of so many numbers
pub record IsReadable (numbers : ℕ) (comparison : Comparison) : Type 0 where
  pub moderate : IsModerate comparison.form
  pub inputs : length comparison.form.inputs ≡ numbers

-- each comparison of a guard can be read on vectors of so many numbers
abbrev pub IsReadableGuard : ℕ → Tree Comparison → Type 0
IsReadableGuard numbers (tree.test comparison) = IsReadable numbers comparison
IsReadableGuard numbers (tree.not guard) = IsReadableGuard numbers guard
IsReadableGuard numbers (tree.and left right) = IsReadableGuard numbers left × IsReadableGuard numbers right
IsReadableGuard numbers (tree.or left right) = IsReadableGuard numbers left × IsReadableGuard numbers right
