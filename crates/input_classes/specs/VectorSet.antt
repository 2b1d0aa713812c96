-- Sets of input vectors, as plain data, and the words that are made of their vectors.
use Rattle.std.specs.Prelude.{ℤ, List, Contains}
use Rattle.std.specs.List.{All}
use Rattle.lin_form.specs.declared.literal.Literal.{Literal}
use Rattle.lin_form.specs.declared.signature.Signature.{Signature}
use Rattle.lin_form.specs.Atom.{AreAsSaid}
use Rattle.lin_form.specs.Range.{IsInRanges}
use Rattle.lin_form.specs.Signature.{ranges_of}

-- a vector of the ranges on which each literal is as it says
pub record IsInBox (ranges : List (ℤ × ℤ)) (literals : List Literal) (vector : List ℤ) : Type 0 where
  pub inside : IsInRanges ranges vector
  pub said : AreAsSaid literals vector

-- all vectors of the ranges on which every literal is as it says, or the vectors of a list
pub data VectorSet : Type 0 where
  Box : (ranges : List (ℤ × ℤ)) → (literals : List Literal) → VectorSet
  Members : (vectors : List (List ℤ)) → VectorSet

-- the vector is in the set
abbrev pub IsIn : VectorSet → List ℤ → Type 0
IsIn (Box ranges literals) x = IsInBox ranges literals x
IsIn (Members vectors) x = Contains vectors x

-- the box of a model: all vectors of its signature's ranges on which each of its assumptions holds
abbrev pub box_of : Signature → List Literal → VectorSet
box_of signature assumed = Box (ranges_of signature.inputs) assumed

-- a list of vectors
abbrev pub Word : Type 0
Word = List (List ℤ)

-- a word is a list of vectors of the set
abbrev pub IsWordOf : VectorSet → Word → Type 0
IsWordOf s w = All (IsIn s) w
