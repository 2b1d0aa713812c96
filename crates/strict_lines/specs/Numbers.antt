-- Strict numbers, as their bytes: `0`, or an optional `-` and digits that begin with 1 to 9, of any length.
use Rattle.std.specs.Prelude.{ℕ, ◌+◌, ◌-◌, ◌*◌, nat_lt, nat_le, unsigned_abs, not, ◌&&◌, ◌||◌, ◌==◌, ℤ, pos, neg_ℤ, Bool, List, length, drop, slice_index, fold, if◌then◌else◌}
use Rattle.std.specs.List.{list_all}
use Rattle.std.specs.Char.{is_ascii_digit}

-- the greatest number that any line may have
abbrev pub most : ℕ
most = 1000000000000

-- `0`, or digits that begin with 1 to 9
abbrev pub is_natural : List ℕ → Bool
is_natural ds = list_all is_ascii_digit ds && nat_lt 0 (length ds) && (length ds == 1 || not (slice_index ds 0 == 48))

abbrev pub is_negative : List ℕ → Bool
is_negative bs = nat_lt 0 (length bs) && slice_index bs 0 == 45

abbrev pub is_number : List ℕ → Bool
is_number bs = if is_negative bs then is_natural (drop 1 bs) && not (slice_index (drop 1 bs) 0 == 48) else is_natural bs

abbrev pub value : List ℕ → ℕ
value ds = fold (λ v d. 10 * v + (d - 48)) 0 ds

-- numbers above the greatest are taken for the least of them, since all of them are refused alike
abbrev pub capped : ℕ → ℕ
capped n = if nat_le n most then n else most + 1

abbrev pub number_value : List ℕ → ℤ
number_value bs = if is_negative bs then neg_ℤ (pos (capped (value (drop 1 bs)))) else pos (capped (value bs))

-- a number is at most the greatest in absolute value
abbrev pub is_within : ℕ → ℤ → Bool
is_within greatest z = nat_le (unsigned_abs z) greatest
