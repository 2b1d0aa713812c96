-- Regions: parts of a box with literals that are as they say.
use Rattle.std.specs.Prelude.{◌≡◌, ℕ, ◌+◌, ◌≤◌, ℤ, pos, neg_ℤ, ◌-ℤ◌, Bool, IsTrue, List, length, get_or}
use Rattle.lin_form.specs.Form.{sum_of_products}
use Rattle.lin_form.specs.Atom.{atom_truth, AreAsSaid}
use Rattle.input_classes.specs.VectorSet.{IsInBox}
use Rattle.lin_form.specs.Range.{IsInRanges}
use Rattle.input_classes.specs.Order.{IsAtMost}
use Rattle.lin_form.specs.declared.atom.Atom.{Atom}
use Rattle.lin_form.specs.declared.literal.Literal.{Literal}
use Rattle.linear_refuter.specs.Cut.{IsCut}
use Rattle.linear_refuter.specs.Sum.{IsShaped}
use Rattle.class_split.specs.declared.region.Region.{Region}
use Rattle.class_split.specs.declared.found.Found.{Found}

-- the vector is one of the region
pub record IsInRegion (region : Region) (vector : List ℤ) : Type 0 where
  pub inside : IsInRanges region.part vector
  pub said : AreAsSaid region.kept.items vector

-- the value of the atom's form without its constant is the number of the variable
abbrev pub IsSingle : Atom → ℕ → Type 0
IsSingle atom variable =
    (x : List ℤ) → length atom.coefficients ≡ length x → sum_of_products atom.coefficients x ≡ get_or x variable (pos 0)

-- a cut of a part on whose two sides an atom of one variable is false and true
pub record IsCutOf (part : List (ℤ × ℤ)) (atom : Atom) (variable : ℕ) (at : ℤ) : Type 0 where
  pub cut : IsCut part variable at
  pub single : (x : List ℤ) → IsInRanges part x → sum_of_products atom.coefficients x ≡ get_or x variable (pos 0)
  pub last : at ≡ (neg_ℤ atom.constant -ℤ pos 1)

-- literals that say on a part what the first and the others say
pub record IsReducedTo (part : List (ℤ × ℤ)) (literals first kept : List Literal) : Type 0 where
  pub from_first : (x : List ℤ) → AreAsSaid kept x → AreAsSaid first x
  pub from_all : (x : List ℤ) → IsInRanges part x → AreAsSaid kept x → AreAsSaid literals x
  pub into : (x : List ℤ) → AreAsSaid first x → AreAsSaid literals x → AreAsSaid kept x
  pub few : length kept ≤ length first + length literals
  pub shaped : IsShaped first part → IsShaped kept part

-- the vectors of a region on which an atom has this truth
pub record IsRestricted (region : Region) (atom : Atom) (holds : Bool) (next : Region) : Type 0 where
  pub width : length next.part ≡ length region.part
  pub shaped : IsShaped next.kept.items next.part
  pub few : length next.kept.items ≤ length region.kept.items + 1
  pub from : (x : List ℤ) → IsInRegion next x → IsInRegion region x × (atom_truth atom x ≡ holds)
  pub into : (x : List ℤ) → IsInRegion region x → atom_truth atom x ≡ holds → IsInRegion next x

-- no vector is in the region
abbrev pub IsEmptyRegion : Region → Type 0
IsEmptyRegion region = (vector : List ℤ) → IsInRegion region vector → ⊥

-- a vector of the region, the least one if that is said
pub record IsFound (region : Region) (found : Found) : Type 0 where
  pub here : IsInRegion region found.vector
  pub least : IsTrue found.is_least → (x : List ℤ) → IsInRegion region x → IsAtMost found.vector x

-- the same for a part and literals
pub record IsFoundIn (literals : List Literal) (part : List (ℤ × ℤ)) (found : Found) : Type 0 where
  pub inside : IsInRanges part found.vector
  pub said : AreAsSaid literals found.vector
  pub least : IsTrue found.is_least → (x : List ℤ) → IsInRanges part x → AreAsSaid literals x → IsAtMost found.vector x

-- the region of all vectors of a box
pub record IsBoxRegion (ranges : List (ℤ × ℤ)) (assumed : List Literal) (region : Region) : Type 0 where
  pub width : length region.part ≡ length ranges
  pub shaped : IsShaped region.kept.items region.part
  pub few : length region.kept.items ≤ length assumed
  pub from : (x : List ℤ) → IsInRegion region x → IsInBox ranges assumed x
  pub into : (x : List ℤ) → IsInBox ranges assumed x → IsInRegion region x
