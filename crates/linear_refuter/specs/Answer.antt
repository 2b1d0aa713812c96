-- What `decide` answers: a vector, or a refutation, which leaves none.
use Rattle.std.specs.Prelude.{ℤ, Bool, ◌≡◌, List}
use Rattle.lin_form.specs.Range.{IsInRanges}
use Rattle.lin_form.specs.Atom.{AreAsSaid, atom_truth}
use Rattle.lin_form.specs.declared.atom.Atom.{Atom}
use Rattle.lin_form.specs.declared.literal.Literal.{Literal}
use Rattle.linear_refuter.specs.Refutation.{IsRefutation, IsLean, PlainTree, plain}
use Rattle.linear_refuter.specs.declared.tree.Answer.{Answer}
use Rattle.linear_refuter.specs.declared.tree.Answer.TheVariants.{Point, Refuted}

-- a vector of the box on which every literal is as it says
abbrev pub IsVectorOf : List Literal → List (ℤ × ℤ) → List ℤ → Type 0
IsVectorOf literals box vector = IsInRanges box vector × AreAsSaid literals vector

-- such a vector, or a lean refutation
abbrev pub IsAnswer : List Literal → List (ℤ × ℤ) → Answer → Type 0
IsAnswer literals box (Point vector) = IsVectorOf literals box vector
IsAnswer literals box (Refuted tree) = IsRefutation literals box (plain tree) × IsLean literals box (plain tree)

-- no vector of the box has every literal as it says
abbrev pub HasNone : List Literal → List (ℤ × ℤ) → Type 0
HasNone literals box = (vector : List ℤ) → IsInRanges box vector → AreAsSaid literals vector → ⊥

-- a refutation leaves none
abbrev pub RefutationsLeaveNone : Type 0
RefutationsLeaveNone =
    (literals : List Literal) (box : List (ℤ × ℤ)) (tree : PlainTree) → IsRefutation literals box tree
    → HasNone literals box

-- the atom has this truth on each vector of the box on which every literal is as it says
abbrev pub HasTruth : List Literal → List (ℤ × ℤ) → Atom → Bool → Type 0
HasTruth literals box atom truth =
    (vector : List ℤ) → IsInRanges box vector → AreAsSaid literals vector → atom_truth atom vector ≡ truth
