-- The lexicographic orders of vectors and of patterns.
use Rattle.std.specs.Prelude.{◌≡◌, ◌⊎◌, ℤ, ◌<ℤ◌, Bool, true, false, List, [], ◌∷◌}
use Rattle.std.specs.List.{All}

-- at most, in lexicographic order
abbrev pub IsAtMost : List ℤ → List ℤ → Type 0
IsAtMost [] ys = Unit {0}
IsAtMost (x ∷ xs) [] = ⊥
IsAtMost (x ∷ xs) (y ∷ ys) = (x <ℤ y) ⊎ ((x ≡ y) × IsAtMost xs ys)

-- one pattern comes before another of as many truths: lexicographically, false before true
abbrev pub IsPatternBefore : List Bool → List Bool → Type 0
IsPatternBefore [] q = ⊥
IsPatternBefore (a ∷ p) [] = ⊥
IsPatternBefore (a ∷ p) (b ∷ q) = ((a ≡ false) × (b ≡ true)) ⊎ ((a ≡ b) × IsPatternBefore p q)

-- each pattern comes before all later ones
abbrev pub AreAscending : List (List Bool) → Type 0
AreAscending [] = Unit {0}
AreAscending (p ∷ patterns) = All (IsPatternBefore p) patterns × AreAscending patterns
