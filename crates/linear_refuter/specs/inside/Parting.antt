-- Two lists of literals in place of one, by an atom that is true or false on each vector.
use Rattle.std.specs.Prelude.{ℤ, ◌⊎◌, List}
use Rattle.lin_form.specs.Atom.{AreAsSaid}
use Rattle.lin_form.specs.declared.literal.Literal.{Literal}
use Rattle.linear_refuter.specs.Sum.{IsShaped}
use Rattle.linear_refuter.specs.declared.form_cut.Halves.{Halves}

-- the vectors on which the literals are as they say are those of one list or of the other
pub record AreHalves (literals : List Literal) (box : List (ℤ × ℤ)) (halves : Halves) : Type 0 where
  pub shaped_low : IsShaped halves.low.items box
  pub shaped_high : IsShaped halves.high.items box
  pub from_low : (x : List ℤ) → AreAsSaid halves.low.items x → AreAsSaid literals x
  pub from_high : (x : List ℤ) → AreAsSaid halves.high.items x → AreAsSaid literals x
  pub either : (x : List ℤ) → AreAsSaid literals x → AreAsSaid halves.low.items x ⊎ AreAsSaid halves.high.items x
