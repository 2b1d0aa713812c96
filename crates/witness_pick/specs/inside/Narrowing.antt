-- How the part of a box that has the least vector is narrowed.
use Rattle.std.specs.Prelude.{◌≡◌, ℕ, zero, suc, ◌+◌, ◌<◌, ◌⊎◌, ℤ, ◌-ℤ◌, ◌≤ℤ◌, ◌<ℤ◌, List, [], ◌∷◌, length, unsigned_abs}
use Rattle.lin_form.specs.Range.{IsInRanges}
use Rattle.lin_form.specs.Atom.{AreAsSaid}
use Rattle.lin_form.specs.declared.literal.Literal.{Literal}
use Rattle.input_classes.specs.Order.{IsAtMost}
use Rattle.witness_pick.specs.declared.narrowing.Narrowed.{Narrowed}

-- the variable is the first whose range has two numbers or more
abbrev pub IsFirstWide : List (ℤ × ℤ) → ℕ → Type 0
IsFirstWide [] variable = ⊥
IsFirstWide (r ∷ rs) zero = r.0 <ℤ r.1
IsFirstWide (r ∷ rs) (suc variable) = (r.1 ≤ℤ r.0) × IsFirstWide rs variable

-- what the search keeps: a vector in the limits that are left, and no vector outside them on which all literals are
-- as they say comes before one inside
pub record IsNarrowed (ls : List Literal) (box limits : List (ℤ × ℤ)) (xs : List ℤ) : Type 0 where
  pub part : (zs : List ℤ) → IsInRanges limits zs → IsInRanges box zs
  pub inside : IsInRanges limits xs
  pub said : AreAsSaid ls xs
  pub covers : (ys : List ℤ) → IsInRanges box ys → AreAsSaid ls ys
      → IsInRanges limits ys ⊎ ((zs : List ℤ) → IsInRanges limits zs → IsAtMost zs ys)

-- how many numbers the ranges have beyond one each
abbrev pub room : List (ℤ × ℤ) → ℕ
room [] = 0
room (r ∷ rs) = unsigned_abs (r.1 -ℤ r.0) + room rs

-- a step of the search keeps what it keeps, and leaves fewer numbers
pub record IsStep (ls : List Literal) (limits : List (ℤ × ℤ)) (vector : List ℤ) (next : Narrowed) : Type 0 where
  pub smaller : room next.limits < room limits
  pub width : length next.limits ≡ length limits
  pub keeps : (box : List (ℤ × ℤ)) → IsNarrowed ls box limits vector → IsNarrowed ls box next.limits next.found
