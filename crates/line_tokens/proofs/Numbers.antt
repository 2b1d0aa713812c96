use Rattle.std.proofs.Common.{◌≡◌, ℕ, ◌+◌, ◌-◌, ◌*◌, ◌<◌, ◌≤◌, true, List, [], ◌∷◌, arith}
use Rattle.std.specs.Prelude.{fold}
use Rattle.std.specs.List.{list_all}
use Rattle.line_tokens.specs.Spelling.{decimal_value}
use Rattle.std.specs.Char.{is_ascii_digit}
use Rattle.line_tokens.proofs.Words.{and_first, and_second}

-- the value after one more digit
abbrev pub with_digit : ℕ → ℕ → ℕ
with_digit value digit = 10 * value + (digit - 48)

-- more digits never lower a value
pub value_grows : (value : ℕ) (digits : List ℕ) → value ≤ fold with_digit value digits
value_grows value [] = omega arith
value_grows value (d ∷ ds) = let h = value_grows (with_digit value d) ds in omega (arith, h)

-- what is read of a number before the digits that are left
pub record IsCounted (digits left : List ℕ) (value most : ℕ) : Type 0 where
  pub same : decimal_value digits ≡ fold with_digit value left
  pub rest : list_all is_ascii_digit left ≡ true
  pub small : value ≤ most

pub counted_more : (digits : List ℕ) (d : ℕ) (left : List ℕ) (value most : ℕ) → IsCounted digits (d ∷ left) value most → with_digit value d ≤ most
    → IsCounted digits left (with_digit value d) most
counted_more digits d left value most c few = record { same = c.same; rest = and_second (is_ascii_digit d) (list_all is_ascii_digit left) c.rest; small = few }

pub counted_digit : (digits : List ℕ) (d : ℕ) (left : List ℕ) (value most : ℕ) → IsCounted digits (d ∷ left) value most → is_ascii_digit d ≡ true
counted_digit digits d left value most c = and_first (is_ascii_digit d) (list_all is_ascii_digit left) c.rest

pub counted_over : (digits : List ℕ) (d : ℕ) (left : List ℕ) (value most : ℕ) → IsCounted digits (d ∷ left) value most → most < with_digit value d
    → most < decimal_value digits
counted_over digits d left value most c over = let h = value_grows (with_digit value d) left in let e = c.same in rw e (omega (arith, h, over))

pub digit_low : (d : ℕ) → is_ascii_digit d ≡ true → 48 ≤ d
digit_low d h = grind arith

pub digit_high : (d : ℕ) → is_ascii_digit d ≡ true → d ≤ 57
digit_high d h = grind arith
