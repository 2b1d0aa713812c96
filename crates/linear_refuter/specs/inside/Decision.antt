-- The boxes on the way to the answer of `decide`, and literals that clash.
use Rattle.std.specs.Prelude.{ℕ, ◌≤◌, ◌<◌, ℤ, pos, ◌+ℤ◌, ◌≤ℤ◌, ◌<ℤ◌, List, Option, None, Some, slice_get}
use Rattle.lin_form.specs.Range.{IsInRanges}
use Rattle.lin_form.specs.Atom.{AreAsSaid}
use Rattle.lin_form.specs.declared.literal.Literal.{Literal}
use Rattle.linear_refuter.specs.Sum.{offset_of}
use Rattle.linear_refuter.specs.Refutation.{IsLean, IsOpposite, Refutes, NoSingle, NoPair, PlainTree, depth, plain}
use Rattle.linear_refuter.specs.declared.tree.Answer.{Answer}
use Rattle.linear_refuter.specs.declared.tree.Answer.TheVariants.{Point, Refuted}
use Rattle.linear_refuter.specs.declared.settle.Settled.{Settled}
use Rattle.linear_refuter.specs.declared.settle.Settled.TheVariants.{Done, Open}

-- a lean refutation with at most n splits on a way
abbrev pub IsLeanWithin : ℕ → List Literal → List (ℤ × ℤ) → PlainTree → Type 0
IsLeanWithin n literals box tree = Refutes literals box tree × IsLean literals box tree × (depth tree ≤ n)

-- the same as an answer
abbrev pub IsAnswerWithin : ℕ → List Literal → List (ℤ × ℤ) → Answer → Type 0
IsAnswerWithin n literals box (Point vector) = IsInRanges box vector × AreAsSaid literals vector
IsAnswerWithin n literals box (Refuted tree) = IsLeanWithin n literals box (plain tree)

-- a box is settled, or it is open: no literal alone refutes it, and no two with opposite coefficients
abbrev pub IsSettled : List Literal → List (ℤ × ℤ) → Settled → Type 0
IsSettled literals box (Done answer) = IsAnswerWithin 0 literals box answer
IsSettled literals box (Open hint) = NoSingle literals box × NoPair literals box

-- the sum of two constants is at least 0
abbrev pub AddToZero : Option Literal → Option Literal → Type 0
AddToZero None other = Unit {0}
AddToZero (Some literal) None = Unit {0}
AddToZero (Some literal) (Some other) = pos 0 ≤ℤ (offset_of literal +ℤ offset_of other)

-- the constants of any two literals with opposite coefficients add up to at least 0
abbrev pub NoClash : List Literal → Type 0
NoClash literals =
    (i j : ℕ) → i < j → IsOpposite (slice_get literals i) (slice_get literals j)
    → AddToZero (slice_get literals i) (slice_get literals j)

-- two literals with opposite coefficients whose constants add up to less than 0
abbrev pub AddBelowZero : Option Literal → Option Literal → Type 0
AddBelowZero None other = ⊥
AddBelowZero (Some literal) None = ⊥
AddBelowZero (Some literal) (Some other) = (offset_of literal +ℤ offset_of other) <ℤ pos 0

abbrev pub IsClash : List Literal → ℕ → ℕ → Type 0
IsClash literals i j =
    (i < j) × IsOpposite (slice_get literals i) (slice_get literals j)
    × AddBelowZero (slice_get literals i) (slice_get literals j)
