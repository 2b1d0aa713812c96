-- The greatest value of a sum of constraints over a box, by the sign of each coefficient.
use Rattle.std.specs.Prelude.{ℤ, pos, negsuc, ◌+ℤ◌, ◌*ℤ◌, List, [], ◌∷◌, Option, None, Some, slice_get}
use Rattle.lin_form.specs.Inequality.{scaled}
use Rattle.lin_form.specs.declared.literal.Literal.{Literal}
use Rattle.linear_refuter.specs.declared.tree.Weight.{Weight}
use Rattle.linear_refuter.specs.Sum.{coefficients_of, offset_of}

-- two lists added place by place, where the shorter one stands for zeros at its end
abbrev pub plus : List ℤ → List ℤ → List ℤ
plus [] bs = bs
plus (a ∷ as') [] = a ∷ as'
plus (a ∷ as') (b ∷ bs) = (a +ℤ b) ∷ plus as' bs

abbrev pub coefficients_at : Option Literal → List ℤ
coefficients_at None = []
coefficients_at (Some literal) = coefficients_of literal

abbrev pub offset_at : Option Literal → ℤ
offset_at None = pos 0
offset_at (Some literal) = offset_of literal

-- the coefficients of a sum of constraints
abbrev pub combined : List Literal → List Weight → List ℤ
combined literals [] = []
combined literals (w ∷ weights) =
    plus (scaled (pos w.times) (coefficients_at (slice_get literals w.literal))) (combined literals weights)

-- the constant of a sum of constraints
abbrev pub shift : List Literal → List Weight → ℤ
shift literals [] = pos 0
shift literals (w ∷ weights) = (pos w.times *ℤ offset_at (slice_get literals w.literal)) +ℤ shift literals weights

-- the end of a range where a coefficient's product is greatest
abbrev pub best : ℤ → ℤ × ℤ → ℤ
best (pos n) range = range.1
best (negsuc n) range = range.0

-- the greatest sum of products over a box
abbrev pub highest : List ℤ → List (ℤ × ℤ) → ℤ
highest [] ranges = pos 0
highest (a ∷ coefficients) [] = pos 0
highest (a ∷ coefficients) (r ∷ ranges) = a *ℤ best a r +ℤ highest coefficients ranges
