-- The runs of bytes that spell a token, and the token that such a run is.
use Rattle.std.specs.Prelude.{ℕ, ◌+◌, ◌-◌, ◌*◌, pos, Bool, false, ◌&&◌, ◌||◌, if◌then◌else◌, ◌==◌, List, [], ◌∷◌}
use Rattle.std.specs.Prelude.{fold, codes}
use Rattle.std.specs.List.{list_all, list_any}
use Rattle.std.specs.Char.{is_ascii_digit}
use Rattle.lin_form.specs.Name.{starts_name, spells_name}
use Rattle.line_tokens.specs.declared.token.Word.{Word}
use Rattle.line_tokens.specs.declared.token.Word.TheVariants.{Name, Number, Symbol}

-- a space or a tab
abbrev pub is_blank : ℕ → Bool
is_blank b = b == 32 || b == 9

-- one or more digits
abbrev pub is_number : List ℕ → Bool
is_number [] = false
is_number (b ∷ bs) = is_ascii_digit b && list_all is_ascii_digit bs

abbrev pub is_symbol_byte : ℕ → Bool
is_symbol_byte b = list_any (λ c. b == c) (codes "<>=+-*(),")

-- the first byte of a symbol that ends in `=`
abbrev pub is_before_equals : ℕ → Bool
is_before_equals b = list_any (λ c. b == c) (codes "<>!")

-- one of `<=` `>=` `!=` `<` `>` `=` `+` `-` `*` `(` `)` `,`
abbrev pub is_symbol : List ℕ → Bool
is_symbol [] = false
is_symbol (b ∷ []) = is_symbol_byte b
is_symbol (b ∷ c ∷ []) = is_before_equals b && c == 61
is_symbol (b ∷ c ∷ d ∷ bs) = false

-- the run is a name, a number or a symbol
abbrev pub is_token : List ℕ → Bool
is_token bytes = spells_name bytes || is_number bytes || is_symbol bytes

-- the number that digits write, leading zeros or not
abbrev pub decimal_value : List ℕ → ℕ
decimal_value digits = fold (λ value digit. 10 * value + (digit - 48)) 0 digits

-- a symbol of one byte is named by its byte, one of two bytes by its first with 128 added
abbrev pub symbol_number : List ℕ → ℕ
symbol_number [] = 0
symbol_number (b ∷ []) = b
symbol_number (b ∷ c ∷ bs) = b + 128

-- there is a first byte, and it is such a one
abbrev pub starts : (ℕ → Bool) → List ℕ → Bool
starts p [] = false
starts p (b ∷ bs) = p b

-- the word that a token is, which its first byte tells
abbrev pub word_of : List ℕ → Word
word_of bytes = if starts starts_name bytes then Name else if starts is_ascii_digit bytes
    then Number (pos (decimal_value bytes)) else Symbol (symbol_number bytes)
