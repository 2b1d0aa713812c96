-- What a line is parsed as, whatever its format: refused for its tokens, blank, or what its tokens say.
use Rattle.std.specs.Prelude.{◌≡◌, ℕ, List, [], ◌∷◌, Option, Some, None, Result, Ok, Err}
use Rattle.line_tokens.specs.declared.error.TokenError.{TokenError}
use Rattle.line_tokens.specs.declared.error.TokenError.TheVariants.{Byte, Limit, Memory}
use Rattle.line_tokens.specs.Limits.{IsRefused}
use Rattle.line_forms.specs.declared.lexeme.Lexeme.{Lexeme}
use Rattle.line_forms.specs.declared.parsed.ParsedLine.{ParsedLine}
use Rattle.line_forms.specs.Forms.{reserved_at}
use Rattle.line_forms.specs.Lexemes.{IsLexed}

-- what the lexemes of a line say by the relation, where there are any
pub record Says {T : Type 0} (Is : List Lexeme → T → Type 0) (line : List ℕ) (said : T) : Type 0 where
  pub first : Lexeme
  pub more : List Lexeme
  pub lexed : IsLexed line (first ∷ more)
  pub says : Is (first ∷ more) said

-- what a line is parsed as
abbrev pub IsParsed : {T : Type 0} → (List Lexeme → T → Type 0) → List ℕ → Result (Option T) TokenError → Type 0
IsParsed Is line (Err Byte) = IsRefused line Byte
IsParsed Is line (Err (Limit limit)) = IsRefused line (Limit limit)
IsParsed Is line (Err Memory) = ⊥
IsParsed Is line (Ok None) = IsLexed line []
IsParsed Is line (Ok (Some said)) = Says Is line said

-- what a function answers that parses a line: what it is parsed as, or want of memory
abbrev pub Parses : {T : Type 0} → (List Lexeme → T → Type 0) → List ℕ → Result (Option T) TokenError → Type 0
Parses Is line (Err Memory) = Unit {0}
Parses Is line parsed = IsParsed Is line parsed

-- what the lexemes of a line derive from, or that they derive from nothing
abbrev pub IsFormed : {T : Type 0} → (List Lexeme → T → Type 0) → List Lexeme → Option T → Type 0
IsFormed {T} Is ts None = (said : T) → Is ts said → ⊥
IsFormed Is ts (Some said) = Is ts said

-- the first word of a line, where it is reserved, and what the line says
pub record AreParsed {T : Type 0} (Is : List Lexeme → T → Type 0) (ts : List Lexeme) (parsed : ParsedLine T) : Type 0 where
  pub head : parsed.head ≡ reserved_at ts 0
  pub form : IsFormed Is ts parsed.form
