-- The tokens of a line: the longest possible from left to right, with nothing but spaces and tabs between them.
use Rattle.std.specs.Prelude.{◌≡◌, ℕ, ◌-◌, ◌<◌, ◌≤◌, true, List, [], ◌∷◌, length, take, drop, map, Option, Some, None}
use Rattle.std.specs.List.{list_all}
use Rattle.line_tokens.specs.declared.span.Span.{Span}
use Rattle.line_tokens.specs.declared.token.Token.{Token}
use Rattle.line_tokens.specs.declared.span.Next.{Next}
use Rattle.line_tokens.specs.declared.span.Next.TheVariants.{End, Fault, Found}
use Rattle.line_tokens.specs.Spelling.{is_blank, is_token, word_of}

-- the first n of these bytes spell a token, and no more of them do
pub record IsLongestToken (bytes : List ℕ) (n : ℕ) : Type 0 where
  pub some : 0 < n
  pub within : n ≤ length bytes
  pub token : is_token (take n bytes) ≡ true
  pub longest : (m : ℕ) → n < m → m ≤ length bytes → is_token (take m bytes) ≡ true → ⊥

-- from the byte `at` on the line has tokens at these spans and blanks between them and at its end
abbrev pub HasSpans : List ℕ → ℕ → List Span → Type 0
HasSpans line at [] = list_all is_blank (drop at line) ≡ true
HasSpans line at (p ∷ ps) = (at ≤ p.from) × (p.from < p.to)
    × (list_all is_blank (take (p.from - at) (drop at line)) ≡ true) × IsLongestToken (drop p.from line) (p.to - p.from)
    × HasSpans line p.to ps

-- the bytes of the line from one byte to before another
abbrev pub run : List ℕ → ℕ → ℕ → List ℕ
run line from to = take (to - from) (drop from line)

-- the bytes that a token of the line stands for
abbrev pub spelling : List ℕ → Token → List ℕ
spelling line t = run line t.from t.to

-- the token that stands in a span of the line
abbrev pub token_at : List ℕ → Span → Token
token_at line p = record { word = word_of (run line p.from p.to); from = p.from; to = p.to }

-- these are the tokens of the line
pub record IsTokenized (line : List ℕ) (tokens : List Token) : Type 0 where
  pub spans : List Span
  pub stand : HasSpans line 0 spans
  pub are : tokens ≡ map (token_at line) spans

-- how many bytes the longest token at the front has, or that none stands there
abbrev pub FindsLongest : List ℕ → Option ℕ → Type 0
FindsLongest bytes None = (m : ℕ) → m ≤ length bytes → is_token (take m bytes) ≡ true → ⊥
FindsLongest bytes (Some n) = IsLongestToken bytes n

-- the first token from the byte `at` on stands at this span
pub record IsFirstToken (line : List ℕ) (at : ℕ) (p : Span) : Type 0 where
  pub after : at ≤ p.from
  pub some : p.from < p.to
  pub within : p.to ≤ length line
  pub blank : list_all is_blank (take (p.from - at) (drop at line)) ≡ true
  pub longest : IsLongestToken (drop p.from line) (p.to - p.from)

-- what stands from the byte `at` on: nothing more, something that begins no token, or a token
abbrev pub IsNext : List ℕ → ℕ → Next → Type 0
IsNext line at End = list_all is_blank (drop at line) ≡ true
IsNext line at Fault = (ps : List Span) → HasSpans line at ps → ⊥
IsNext line at (Found p) = IsFirstToken line at p

-- the token stands inside the line
abbrev pub IsInside : List ℕ → Token → Type 0
IsInside line t = (t.from ≤ t.to) × (t.to ≤ length line)

-- the span is that of a token of the line
pub record IsSpan (line : List ℕ) (p : Span) : Type 0 where
  pub order : p.from ≤ p.to
  pub within : p.to ≤ length line
  pub token : is_token (run line p.from p.to) ≡ true
