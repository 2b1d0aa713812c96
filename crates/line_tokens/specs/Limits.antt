-- The limits of a line that its tokens show, in their order, and what the tokens of a line are or why there are none.
use Rattle.std.specs.Prelude.{◌≡◌, ℕ, ◌-◌, pos, Bool, false, ◌||◌, if◌then◌else◌, nat_lt, int_lt, List, [], ◌∷◌}
use Rattle.std.specs.Prelude.{length, count_by, codes, Option, Some, None}
use Rattle.std.specs.Option.{option_or}
use Rattle.std.specs.Str.{bytes_eq}
use Rattle.line_tokens.specs.declared.token.Word.{Word}
use Rattle.line_tokens.specs.declared.token.Word.TheVariants.{Name, Number, Symbol}
use Rattle.line_tokens.specs.declared.token.Token.{Token}
use Rattle.line_tokens.specs.declared.error.TokenLimit.{TokenLimit}
use Rattle.line_tokens.specs.declared.error.TokenLimit.TheVariants.{Literal, NameBytes, Tokens, Nesting}
use Rattle.line_tokens.specs.declared.error.TokenError.{TokenError}
use Rattle.line_tokens.specs.declared.error.TokenError.TheVariants.{Byte, Limit, Memory}
use Rattle.line_tokens.specs.Lines.{content_of}
use Rattle.line_tokens.specs.Tokens.{IsTokenized, spelling}

-- the greatest number that may stand in a line, and the one after the word `gives`
abbrev pub largest_literal : Bool → ℕ
largest_literal after_gives = if after_gives then 1_000_000_000_000 else 1_000_000

-- the limit that a word passes which is so many bytes long
abbrev pub word_limit : Bool → Word → ℕ → Option TokenLimit
word_limit after_gives Name bytes = if nat_lt 32 bytes then Some NameBytes else None
word_limit after_gives (Number z) bytes = if int_lt (pos (largest_literal after_gives)) z then Some Literal else None
word_limit after_gives (Symbol s) bytes = None

abbrev pub token_limit : Bool → Token → Option TokenLimit
token_limit after_gives t = word_limit after_gives t.word (t.to - t.from)

-- the token is this word of the language
abbrev pub is_word : List ℕ → List ℕ → Token → Bool
is_word line word t = bytes_eq (spelling line t) word

-- the limit on numbers and names that the first token from the left passes
abbrev pub first_limit : List ℕ → Bool → List Token → Option TokenLimit
first_limit line after_gives [] = None
first_limit line after_gives (t ∷ ts) = option_or (token_limit after_gives t)
    (first_limit line (after_gives || is_word line (codes "gives") t) ts)

-- the token is `(` or `not`
abbrev pub is_nesting : List ℕ → Token → Bool
is_nesting line t = is_word line (codes "(") t || is_word line (codes "not") t

-- the first limit that the tokens of a line pass: on numbers and names, then on their number, then on nesting
abbrev pub limit_of : List ℕ → List Token → Option TokenLimit
limit_of line ts = option_or (first_limit line false ts)
    (option_or (if nat_lt 1024 (length ts) then Some Tokens else None)
    (if nat_lt 64 (count_by (is_nesting line) ts) then Some Nesting else None))

-- the line has these tokens, and they pass no limit
pub record IsRead (line : List ℕ) (tokens : List Token) : Type 0 where
  pub tokenized : IsTokenized (content_of line) tokens
  pub unlimited : limit_of (content_of line) tokens ≡ None

-- the line has no tokens, or tokens that pass this limit first
abbrev pub IsRefused : List ℕ → TokenError → Type 0
IsRefused line Byte = (tokens : List Token) → IsTokenized (content_of line) tokens → ⊥
IsRefused line (Limit l) = (tokens : List Token) × IsTokenized (content_of line) tokens
    × (limit_of (content_of line) tokens ≡ Some l)
IsRefused line Memory = Unit {0}

-- the tokens at these spans pass this limit first, among those on numbers and names
abbrev pub IsLimited : List ℕ → List Token → TokenError → Type 0
IsLimited line tokens Byte = ⊥
IsLimited line tokens (Limit l) = first_limit line false tokens ≡ Some l
IsLimited line tokens Memory = Unit {0}
