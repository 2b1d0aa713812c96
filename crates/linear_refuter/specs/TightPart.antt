-- Parts of a box that lose no vector on which literals are as they say, and the least vector of a box.
use Rattle.std.specs.Prelude.{ℤ, ◌≡◌, ◌≤ℤ◌, List, [], ◌∷◌}
use Rattle.std.specs.List.{All}
use Rattle.lin_form.specs.Range.{IsInRanges}
use Rattle.lin_form.specs.Atom.{AreAsSaid}
use Rattle.lin_form.specs.declared.literal.Literal.{Literal}
use Rattle.input_classes.specs.Order.{IsAtMost}

-- each range of a part lies in that of the box
abbrev pub IsWithin : List (ℤ × ℤ) → List (ℤ × ℤ) → Type 0
IsWithin [] [] = Unit {0}
IsWithin [] (b ∷ box) = ⊥
IsWithin (r ∷ part) [] = ⊥
IsWithin (r ∷ part) (b ∷ box) = (b.0 ≤ℤ r.0) × (r.1 ≤ℤ b.1) × IsWithin part box

-- a part of the box that has each vector of it on which every literal is as it says
pub record IsTightened (literals : List Literal) (box part : List (ℤ × ℤ)) : Type 0 where
  pub within : IsWithin part box
  pub keeps : (vector : List ℤ) → IsInRanges box vector → AreAsSaid literals vector → IsInRanges part vector

-- each range has one number
abbrev pub IsFlat : List (ℤ × ℤ) → Type 0
IsFlat box = All (λ range. range.1 ≤ℤ range.0) box

-- the least number of each range
abbrev pub lows : List (ℤ × ℤ) → List ℤ
lows [] = []
lows (r ∷ rs) = r.0 ∷ lows rs

-- the least vector of a box, on which every literal is as it says
pub record IsCorner (literals : List Literal) (box : List (ℤ × ℤ)) (vector : List ℤ) : Type 0 where
  pub lowest : vector ≡ lows box
  pub inside : IsInRanges box vector
  pub said : AreAsSaid literals vector
  pub least : (other : List ℤ) → IsInRanges box other → IsAtMost vector other
