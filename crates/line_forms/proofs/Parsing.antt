-- A line is parsed in one way.
use Rattle.std.proofs.Common.{◌≡◌, ℕ, List, [], ◌∷◌, map, Option, Some, None, refl, sym, ◌∙◌, ap, subst}
use Rattle.std.specs.Prelude.{Result, Ok, Err}
use Rattle.line_tokens.specs.declared.token.Token.{Token}
use Rattle.line_tokens.specs.declared.error.TokenLimit.{TokenLimit}
use Rattle.line_tokens.specs.declared.error.TokenError.{TokenError}
use Rattle.line_tokens.specs.declared.error.TokenError.TheVariants.{Byte, Limit, Memory}
use Rattle.line_tokens.specs.Lines.{content_of}
use Rattle.line_tokens.specs.Tokens.{IsTokenized}
use Rattle.line_tokens.specs.Limits.{IsRefused, limit_of}
use Rattle.line_forms.specs.declared.lexeme.Lexeme.{Lexeme}
use Rattle.line_forms.specs.Lexemes.{IsLexed, lexeme_of}
use Rattle.line_forms.specs.Parsing.{IsParsed}

-- no line has more than one list of tokens
abbrev pub AreOne : Type 0
AreOne = (line : List ℕ) (tokens others : List Token) → IsTokenized line tokens → IsTokenized line others → tokens ≡ others

one_lexed : AreOne → (line : List ℕ) (xs ys : List Lexeme) → IsLexed line xs → IsLexed line ys → xs ≡ ys
one_lexed one line xs ys p q = p.mean ∙ ap (map (lexeme_of (content_of line)))
    (one (content_of line) p.tokens q.tokens p.tokenized.tokenized q.tokenized.tokenized) ∙ sym q.mean

-- a line that is read passes no limit
not_limited : AreOne → (line : List ℕ) (limit : TokenLimit) (xs : List Lexeme) → IsRefused line (Limit limit) → IsLexed line xs → ⊥
not_limited one line limit xs p q =
    let e = one (content_of line) p.0 q.tokens p.1 q.tokenized.tokenized in
    let h : Some limit ≡ None = sym p.2 ∙ ap (limit_of (content_of line)) e ∙ q.tokenized.unlimited in
    cc

same_limit : AreOne → (line : List ℕ) (l k : TokenLimit) → IsRefused line (Limit l) → IsRefused line (Limit k) → l ≡ k
same_limit one line l k p q =
    let e = one (content_of line) p.0 q.0 p.1 q.1 in
    let h : Some l ≡ Some k = sym p.2 ∙ ap (limit_of (content_of line)) e ∙ q.2 in
    cc

pub one_parsed : {T : Type 0} (Is : List Lexeme → T → Type 0) → ((ts : List Lexeme) (a b : T) → Is ts a → Is ts b → a ≡ b) → AreOne
    → (line : List ℕ) (a b : Result (Option T) TokenError) → IsParsed Is line a → IsParsed Is line b → a ≡ b
one_parsed Is same one line (Err Byte) (Err Byte) p q = refl
one_parsed Is same one line (Err Byte) (Err (Limit k)) p q = absurd (p q.0 q.1)
one_parsed Is same one line (Err Byte) (Err Memory) p q = absurd q
one_parsed Is same one line (Err Byte) (Ok None) p q = absurd (p q.tokens q.tokenized.tokenized)
one_parsed Is same one line (Err Byte) (Ok (Some b)) p q = absurd (p q.lexed.tokens q.lexed.tokenized.tokenized)
one_parsed Is same one line (Err (Limit l)) (Err Byte) p q = absurd (q p.0 p.1)
one_parsed Is same one line (Err (Limit l)) (Err (Limit k)) p q = let e = same_limit one line l k p q in λ j. Err (Limit (e j))
one_parsed Is same one line (Err (Limit l)) (Err Memory) p q = absurd q
one_parsed Is same one line (Err (Limit l)) (Ok None) p q = absurd (not_limited one line l [] p q)
one_parsed Is same one line (Err (Limit l)) (Ok (Some b)) p q = absurd (not_limited one line l (q.first ∷ q.more) p q.lexed)
one_parsed Is same one line (Err Memory) b p q = absurd p
one_parsed Is same one line (Ok None) (Err Byte) p q = absurd (q p.tokens p.tokenized.tokenized)
one_parsed Is same one line (Ok None) (Err (Limit k)) p q = absurd (not_limited one line k [] q p)
one_parsed Is same one line (Ok None) (Err Memory) p q = absurd q
one_parsed Is same one line (Ok None) (Ok None) p q = refl
one_parsed Is same one line (Ok None) (Ok (Some b)) p q = let e = one_lexed one line [] (q.first ∷ q.more) p q.lexed in absurd (cc)
one_parsed Is same one line (Ok (Some a)) (Err Byte) p q = absurd (q p.lexed.tokens p.lexed.tokenized.tokenized)
one_parsed Is same one line (Ok (Some a)) (Err (Limit k)) p q = absurd (not_limited one line k (p.first ∷ p.more) q p.lexed)
one_parsed Is same one line (Ok (Some a)) (Err Memory) p q = absurd q
one_parsed Is same one line (Ok (Some a)) (Ok None) p q = let e = one_lexed one line (p.first ∷ p.more) [] p.lexed q in absurd (cc)
one_parsed Is same one line (Ok (Some a)) (Ok (Some b)) p q =
    let e = one_lexed one line (q.first ∷ q.more) (p.first ∷ p.more) q.lexed p.lexed in
    let h = same (p.first ∷ p.more) a b p.says (subst (λ ts. Is ts b) e q.says) in
    λ j. Ok (Some (h j))

lexed_not : {T : Type 0} (Is : List Lexeme → T → Type 0) → ((ts : List Lexeme) → ((a : T) → Is ts a → ⊥) → ⊥) → (line : List ℕ) (xs : List Lexeme)
    → ((a : Result (Option T) TokenError) → IsParsed Is line a → ⊥) → IsLexed line xs → ⊥
lexed_not Is some line [] none lexed = none (Ok None) lexed
lexed_not Is some line (x ∷ xs) none lexed = some (x ∷ xs) (λ a is. none (Ok (Some a)) (record { first = x; more = xs; lexed = lexed; says = is }))

limit_not : {T : Type 0} (Is : List Lexeme → T → Type 0) → ((ts : List Lexeme) → ((a : T) → Is ts a → ⊥) → ⊥)
    → (line : List ℕ) (tokens : List Token) (limit : Option TokenLimit) → ((a : Result (Option T) TokenError) → IsParsed Is line a → ⊥)
    → IsTokenized (content_of line) tokens → limit_of (content_of line) tokens ≡ limit → ⊥
limit_not Is some line tokens (Some l) none is e = none (Err (Limit l)) (tokens, is, e)
limit_not Is some line tokens None none is e =
    lexed_not Is some line (map (lexeme_of (content_of line)) tokens) none
    (record { tokens = tokens; tokenized = record { tokenized = is; unlimited = e }; mean = refl })

pub some_parsed : {T : Type 0} (Is : List Lexeme → T → Type 0) → ((ts : List Lexeme) → ((a : T) → Is ts a → ⊥) → ⊥) → (line : List ℕ)
    → ((a : Result (Option T) TokenError) → IsParsed Is line a → ⊥) → ⊥
some_parsed Is some line none = none (Err Byte) (λ tokens is. limit_not Is some line tokens (limit_of (content_of line) tokens) none is refl)
