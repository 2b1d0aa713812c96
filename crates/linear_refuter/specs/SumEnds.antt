-- Numbers between which a sum of products lies on the vectors that literals leave of a box.
use Rattle.std.specs.Prelude.{ℤ, ◌≤ℤ◌, List}
use Rattle.lin_form.specs.Form.{sum_of_products}
use Rattle.lin_form.specs.Range.{IsInRanges}
use Rattle.lin_form.specs.Atom.{AreAsSaid}
use Rattle.lin_form.specs.declared.literal.Literal.{Literal}

-- a number is at least the first of two ends and at most the second
abbrev pub LiesBetween : ℤ × ℤ → ℤ → Type 0
LiesBetween ends number = (ends.0 ≤ℤ number) × (number ≤ℤ ends.1)

-- the sum lies between them on each vector of the box on which every literal is as it says
abbrev pub AreSumEnds : List Literal → List (ℤ × ℤ) → List ℤ → ℤ × ℤ → Type 0
AreSumEnds literals box coefficients ends =
    (vector : List ℤ) → IsInRanges box vector → AreAsSaid literals vector
    → LiesBetween ends (sum_of_products coefficients vector)
