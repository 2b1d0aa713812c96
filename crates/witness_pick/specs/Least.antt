-- The least vector of a box on which literals are as they say.
use Rattle.std.specs.Prelude.{ℤ, List}
use Rattle.lin_form.specs.Range.{IsInRanges}
use Rattle.input_classes.specs.Order.{IsAtMost}
use Rattle.lin_form.specs.declared.literal.Literal.{Literal}
use Rattle.lin_form.specs.Atom.{AreAsSaid}
use Rattle.linear_refuter.specs.Refutation.{IsLean, IsRefutation, plain}
use Rattle.witness_pick.specs.declared.Pick.{Pick}
use Rattle.witness_pick.specs.declared.Pick.TheVariants.{Least, None}

-- a vector of the box on which every literal is as it says, and no other such vector comes before it
pub record IsLeast (literals : List Literal) (box : List (ℤ × ℤ)) (vector : List ℤ) : Type 0 where
  pub inside : IsInRanges box vector
  pub said : AreAsSaid literals vector
  pub least : (other : List ℤ) → IsInRanges box other → AreAsSaid literals other → IsAtMost vector other

-- the least vector, or a lean refutation
abbrev pub IsPick : List Literal → List (ℤ × ℤ) → Pick → Type 0
IsPick literals box (Least vector) = IsLeast literals box vector
IsPick literals box (None tree) = IsRefutation literals box (plain tree) × IsLean literals box (plain tree)
