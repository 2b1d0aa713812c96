-- Digits that are counted one after another.
use Rattle.std.proofs.Common.{◌≡◌, ℕ, ◌+◌, ◌-◌, ◌*◌, ◌<◌, ◌≤◌, Bool, true, false, ◌&&◌, List, [], ◌∷◌, arith, refl}
use Rattle.std.specs.Prelude.{fold}
use Rattle.std.specs.List.{list_all}
use Rattle.std.specs.Char.{is_ascii_digit}
use Rattle.std.proofs.lemmas.Bool.{false≢true}
use Rattle.strict_lines.specs.Numbers.{value}

pub both : (a b : Bool) → a && b ≡ true → (a ≡ true) × (b ≡ true)
both true b h = (refl, h)
both false b h = absurd (false≢true h)

abbrev pub with_digit : ℕ → ℕ → ℕ
with_digit v digit = 10 * v + (digit - 48)

pub value_grows : (v : ℕ) (digits : List ℕ) → v ≤ fold with_digit v digits
value_grows v [] = omega arith
value_grows v (d ∷ ds) = let h = value_grows (with_digit v d) ds in omega (arith, h)

pub record IsCounted (digits left : List ℕ) (v most : ℕ) : Type 0 where
  pub same : value digits ≡ fold with_digit v left
  pub rest : list_all is_ascii_digit left ≡ true
  pub small : v ≤ most

pub counted_over : (digits : List ℕ) (d : ℕ) (left : List ℕ) (v most : ℕ) → IsCounted digits (d ∷ left) v most → most < with_digit v d → most < value digits
counted_over digits d left v most c over = let h = value_grows (with_digit v d) left in let e = c.same in rw e (omega (arith, h, over))

pub counted_digit : (digits : List ℕ) (d : ℕ) (left : List ℕ) (v most : ℕ) → IsCounted digits (d ∷ left) v most → is_ascii_digit d ≡ true
counted_digit digits d left v most c = (both (is_ascii_digit d) (list_all is_ascii_digit left) c.rest).0
