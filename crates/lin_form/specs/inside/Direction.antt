-- How a direction stands for coefficients.
use Rattle.std.specs.Prelude.{◌≡◌, ℤ, pos, ◌-ℤ◌, ◌<ℤ◌, neg_ℤ, Bool, true, false, List, unsigned_abs}
use Rattle.std.specs.Int.{int_div_euclid}
use Rattle.lin_form.specs.Inequality.{AreZero, IsGreatestDivisor, leads_positive, scaled}
use Rattle.lin_form.specs.Range.{AreWithin}

-- the divisor, with the sign of the first coefficient other than 0
abbrev pub factor : Bool → ℤ → ℤ
factor true divisor = divisor
factor false divisor = neg_ℤ divisor

-- the coefficients that were divided
abbrev pub whole_of : Bool → ℤ → List ℤ → List ℤ
whole_of leads divisor normal = scaled (factor leads divisor) normal

-- the constant of the atom of an inequality with this constant
abbrev pub constant_on : Bool → ℤ → ℤ → ℤ
constant_on true divisor constant = int_div_euclid constant divisor
constant_on false divisor constant = neg_ℤ (int_div_euclid constant divisor) -ℤ pos 1

-- small coefficients, their greatest common divisor and the sign of the first other than 0
pub record IsDirection (whole : List ℤ) (divisor : ℤ) (leads : Bool) : Type 0 where
  pub positive : pos 0 <ℤ divisor
  pub common : IsGreatestDivisor whole (unsigned_abs divisor)
  pub within : AreWithin 1000000 whole
  pub some : AreZero whole → ⊥
  pub side : leads ≡ leads_positive whole
