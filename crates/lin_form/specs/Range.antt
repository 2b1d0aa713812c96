-- Ranges of numbers, and the vectors with one number in each range.
use Rattle.std.specs.Prelude.{ℕ, ◌≤◌, ℤ, ◌≤ℤ◌, List, length, unsigned_abs}
use Rattle.std.specs.List.{AllZip, All}

-- an input's range: from lo to hi, both at most 1,000,000 in absolute value
pub record IsRange (lo hi : ℤ) : Type 0 where
  pub ordered : lo ≤ℤ hi
  pub low : unsigned_abs lo ≤ 1000000
  pub high : unsigned_abs hi ≤ 1000000

-- numbers of at most `most` in absolute value
abbrev pub AreWithin : ℕ → List ℤ → Type 0
AreWithin most numbers = All (λ x. unsigned_abs x ≤ most) numbers

-- a number lies in a range
abbrev pub IsInRange : ℤ × ℤ → ℤ → Type 0
IsInRange range number = (range.0 ≤ℤ number) × (number ≤ℤ range.1)

-- a vector has one number per range, each in its range
abbrev pub IsInRanges : List (ℤ × ℤ) → List ℤ → Type 0
IsInRanges ranges vector = AllZip IsInRange ranges vector

-- at least one and at most `most`
pub record IsCount (most n : ℕ) : Type 0 where
  pub least : 1 ≤ n
  pub limit : n ≤ most

-- 1 to 6 ranges of inputs
pub record AreRanges (ranges : List (ℤ × ℤ)) : Type 0 where
  pub count : IsCount 6 (length ranges)
  pub each : All (λ range. IsRange range.0 range.1) ranges
