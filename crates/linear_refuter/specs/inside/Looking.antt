-- What one look at a box shows, in a search for a vector.
use Rattle.std.specs.Prelude.{ℤ, List}
use Rattle.lin_form.specs.Range.{IsInRanges}
use Rattle.lin_form.specs.Atom.{AreAsSaid}
use Rattle.lin_form.specs.declared.literal.Literal.{Literal}
use Rattle.linear_refuter.specs.Answer.{HasNone}
use Rattle.linear_refuter.specs.TightPart.{IsTightened, lows}
use Rattle.linear_refuter.specs.declared.seeking.Look.{Look}
use Rattle.linear_refuter.specs.declared.seeking.Look.TheVariants.{Empty, Found, Open}
use Rattle.linear_refuter.specs.declared.seeking.Glance.{Glance}
use Rattle.linear_refuter.specs.declared.seeking.Glance.TheVariants.{Empty as Nothing, Found as Seen, Spent}

-- no vector, one, or a tightened part whose least vector is none
abbrev pub IsLook : List Literal → List (ℤ × ℤ) → Look → Type 0
IsLook literals box Empty = HasNone literals box
IsLook literals box (Found vector) = IsInRanges box vector × AreAsSaid literals vector
IsLook literals box (Open part variable) = IsTightened literals box part × (AreAsSaid literals (lows part) → ⊥)

-- no vector, one, or nothing yet
abbrev pub IsGlance : List Literal → List (ℤ × ℤ) → Glance → Type 0
IsGlance literals box Nothing = HasNone literals box
IsGlance literals box (Seen vector) = IsInRanges box vector × AreAsSaid literals vector
IsGlance literals box Spent = Unit {0}
