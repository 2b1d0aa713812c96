-- The lines of a strict text and the tokens of a line, and how tokens are printed: with one space between them, and a line
-- feed at the end.
use Rattle.std.specs.Prelude.{◌≡◌, ℕ, ◌==◌, ℤ, true, if◌then◌else◌, List, [], ◌∷◌, ◌++◌, map}
use Rattle.std.specs.List.{flat_map, AllByRecursion}
use Rattle.std.specs.Fmt.{signed_decimal}
use Rattle.strict_lines.specs.Numbers.{is_number, number_value, is_within, most}

-- a token is a number or other bytes
pub data Token : Type 0 where
  Number : ℤ → Token
  Word : List ℕ → Token

-- the pieces between the bytes that are `separator`, at least one
abbrev pub onto : ℕ → List (List ℕ) → List (List ℕ)
onto b [] = (b ∷ []) ∷ []
onto b (piece ∷ rest) = (b ∷ piece) ∷ rest

abbrev pub pieces_between : ℕ → List ℕ → List (List ℕ)
pieces_between separator [] = [] ∷ []
pieces_between separator (b ∷ bs) =
    if b == separator then [] ∷ pieces_between separator bs else onto b (pieces_between separator bs)

abbrev pub token_of : List ℕ → Token
token_of piece = if is_number piece then Number (number_value piece) else Word piece

-- each line is one list of tokens; where two spaces stand together, or a space at an end, one of them is the empty word
abbrev pub line_tokens : List ℕ → List Token
line_tokens bs = map token_of (pieces_between 32 bs)

abbrev pub spelled : Token → List ℕ
spelled (Number z) = signed_decimal z
spelled (Word w) = w

-- tokens that each have a space before them
abbrev pub tail_text : List Token → List ℕ
tail_text tokens = flat_map (λ t. 32 ∷ spelled t) tokens

abbrev pub line_text : List Token → List ℕ
line_text [] = 10 ∷ []
line_text (t ∷ tokens) = spelled t ++ tail_text tokens ++ 10 ∷ []

-- a number is at most the greatest that any line may have
abbrev pub IsSmall : Token → Type 0
IsSmall (Number z) = is_within most z ≡ true
IsSmall (Word w) = Unit {0}

abbrev pub AreSmall : List Token → Type 0
AreSmall = AllByRecursion IsSmall
