-- The constraints of literals, and sums of them that are below 0 on a whole box.
use Rattle.std.specs.Prelude.{◌≡◌, ℕ, ◌≤◌, ◌<◌, ℤ, pos, ◌+ℤ◌, ◌-ℤ◌, ◌*ℤ◌, neg_ℤ, ◌<ℤ◌, Bool, true, false, List, [], ◌∷◌, length, map, Option, None, Some, slice_get, MatchBool}
use Rattle.std.specs.List.{All}
use Rattle.lin_form.specs.Form.{sum_of_products}
use Rattle.lin_form.specs.Range.{IsInRanges}
use Rattle.lin_form.specs.declared.literal.Literal.{Literal}
use Rattle.linear_refuter.specs.declared.tree.Weight.{Weight}

-- a truth tells whether something is so
abbrev pub Tells : Bool → Type 0 → Type 0
Tells truth Fact = MatchBool truth Fact (Fact → ⊥)

-- the sign of a literal put in: a number as it is, or turned
abbrev pub signed : Bool → ℤ → ℤ
signed true z = z
signed false z = neg_ℤ z

-- the constant of a literal that holds as it is, and of one that does not turned and 1 less
abbrev pub shifted : Bool → ℤ → ℤ
shifted true z = z
shifted false z = neg_ℤ z -ℤ pos 1

abbrev pub coefficients_of : Literal → List ℤ
coefficients_of literal = map (signed literal.holds) literal.atom.coefficients

abbrev pub offset_of : Literal → ℤ
offset_of literal = shifted literal.holds literal.atom.constant

-- the left side of a literal's constraint, which says that it is at least 0
abbrev pub constraint : Literal → List ℤ → ℤ
constraint literal vector = sum_of_products (coefficients_of literal) vector +ℤ offset_of literal

-- the same, where there is such a literal
abbrev pub constraint_at : Option Literal → List ℤ → ℤ
constraint_at None vector = pos 0
constraint_at (Some literal) vector = constraint literal vector

-- the sum of the constraints, each taken as often as its weight says
abbrev pub total : List Literal → List Weight → List ℤ → ℤ
total literals [] vector = pos 0
total literals (w ∷ weights) vector =
    (pos w.times *ℤ constraint_at (slice_get literals w.literal) vector) +ℤ total literals weights vector

-- at most 256 weights of literals, whose sum is below 0 on each vector of the box
pub record IsRefutingSum (literals : List Literal) (box : List (ℤ × ℤ)) (weights : List Weight) : Type 0 where
  pub short : length weights ≤ 256
  pub known : All (λ w. w.literal < length literals) weights
  pub negative : (vector : List ℤ) → IsInRanges box vector → total literals weights vector <ℤ pos 0

-- a literal taken once
abbrev pub once : ℕ → Weight
once literal = record { literal = literal; times = 1 }

-- each literal has as many coefficients as the box has ranges
abbrev pub IsShaped : List Literal → List (ℤ × ℤ) → Type 0
IsShaped literals box = All (λ literal. length literal.atom.coefficients ≡ length box) literals
