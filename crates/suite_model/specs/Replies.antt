-- Replies in a row.
use Rattle.std.specs.Prelude.{ℕ, ◌<◌, ℤ, List, [], length, map, Option, Some, None, slice_index_or}
use Rattle.std.specs.List.{All}

-- the replies with these numbers, or each of them by itself
abbrev pub in_full : List (List ℤ) → Option (List ℕ) → List (List ℤ)
in_full kinds None = kinds
in_full kinds (Some numbers) = map (λ n. slice_index_or kinds n []) numbers

-- each number is that of a reply
abbrev pub AreNumbers : List (List ℤ) → Option (List ℕ) → Type 0
AreNumbers kinds None = Unit {0}
AreNumbers kinds (Some numbers) = All (λ n. n < length kinds) numbers
