-- Cuts that halve a range, and how often the ranges of a box can be halved.
use Rattle.std.specs.Prelude.{ℕ, ◌-◌, ◌^◌, ◌≤◌, ◌<◌, ℤ, pos, ◌+ℤ◌, ◌-ℤ◌, ◌≤ℤ◌, ◌<ℤ◌, List, [], ◌∷◌}
use Rattle.linear_refuter.specs.Cut.{IsCut, below, above}

-- the ranges have at most 2^k numbers each, for k that add up to at most n
abbrev pub HasBits : List (ℤ × ℤ) → ℕ → Type 0
HasBits [] n = Unit {0}
HasBits (r ∷ rs) n = (k : ℕ) × (r.1 <ℤ (r.0 +ℤ pos (2 ^ k))) × (k ≤ n) × HasBits rs (n - k)

-- the middle of a range: up to it stand as many numbers as above it, or one more
pub record IsMiddle (low high at : ℤ) : Type 0 where
  pub from_low : low ≤ℤ at
  pub below_high : at <ℤ high
  pub lower : (at -ℤ low) ≤ℤ (high -ℤ at)
  pub upper : (high -ℤ at) ≤ℤ ((at -ℤ low) +ℤ pos 1)

-- a cut that leaves at most half of a range, rounded up, on each side
pub record IsHalving (box : List (ℤ × ℤ)) (variable : ℕ) (at : ℤ) : Type 0 where
  pub cut : IsCut box variable at
  pub some : (n : ℕ) → HasBits box n → 0 < n
  pub low : (n : ℕ) → HasBits box n → HasBits (below box variable at) (n - 1)
  pub high : (n : ℕ) → HasBits box n → HasBits (above box variable at) (n - 1)
