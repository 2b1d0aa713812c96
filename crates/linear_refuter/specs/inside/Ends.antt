-- The values of a sum on a box, and what is left of a box when one literal is as it says.
use Rattle.std.specs.Prelude.{ℤ, pos, ◌*ℤ◌, ◌≤ℤ◌, List}
use Rattle.lin_form.specs.Form.{sum_of_products}
use Rattle.lin_form.specs.Range.{IsInRanges}
use Rattle.lin_form.specs.declared.literal.Literal.{Literal}
use Rattle.linear_refuter.specs.Sum.{constraint}
use Rattle.linear_refuter.specs.SumEnds.{LiesBetween}
use Rattle.linear_refuter.specs.TightPart.{IsWithin}

-- the sum lies between two numbers on each vector of the box
abbrev pub AreBoxEnds : List (ℤ × ℤ) → List ℤ → ℤ × ℤ → Type 0
AreBoxEnds box coefficients ends =
    (vector : List ℤ) → IsInRanges box vector → LiesBetween ends (sum_of_products coefficients vector)

-- the same for the products of a coefficient with the numbers of a range
abbrev pub AreProductEnds : ℤ → ℤ × ℤ → ℤ × ℤ → Type 0
AreProductEnds coefficient range ends = (x : ℤ) → range.0 ≤ℤ x → x ≤ℤ range.1 → LiesBetween ends (coefficient *ℤ x)

-- a literal's constraint is at most this on each vector of the box
abbrev pub IsSlack : Literal → List (ℤ × ℤ) → ℤ → Type 0
IsSlack literal box slack = (vector : List ℤ) → IsInRanges box vector → constraint literal vector ≤ℤ slack

-- a part of the box that has each vector of it on which a literal's constraint holds
pub record IsShrunk (literal : Literal) (box part : List (ℤ × ℤ)) : Type 0 where
  pub within : IsWithin part box
  pub keeps : (vector : List ℤ) → IsInRanges box vector → pos 0 ≤ℤ constraint literal vector → IsInRanges part vector
