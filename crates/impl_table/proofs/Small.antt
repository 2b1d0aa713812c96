-- What a line of a table says is as small as the limits on its tokens leave it.
use Rattle.std.proofs.Common.{◌≡◌, ℕ, zero, suc, ◌+◌, ◌-◌, ◌≤◌, Bool, true, false, ◌||◌, List, [], ◌∷◌, map, codes, Option, Some, None}
use Rattle.std.proofs.Common.{refl, sym, ◌∙◌, ap, subst, arith, pos}
use Rattle.std.specs.Prelude.{if◌then◌else◌, ◌==◌, nat_le, int_lt}
use Rattle.std.specs.List.{All}
use Rattle.std.specs.Char.{is_ascii_digit}
use Rattle.std.proofs.lemmas.Bool.Decides.{nat_tests}
use Rattle.std.proofs.lemmas.Int.{ints}
use Rattle.std.proofs.lemmas.List.Elements.{All-nil, All-cons}
use Rattle.lin_form.specs.Name.{starts_name}
use Rattle.line_tokens.specs.declared.span.Span.{Span}
use Rattle.line_tokens.specs.declared.token.Word.TheVariants as word
use Rattle.line_tokens.specs.declared.error.TokenLimit.TheVariants as token_limits
use Rattle.line_tokens.specs.Lines.{content_of}
use Rattle.line_tokens.specs.Spelling.{starts, decimal_value, symbol_number}
use Rattle.line_tokens.specs.Tokens.{token_at, spelling, run}
use Rattle.line_tokens.specs.Limits.{first_limit, word_limit, token_limit, is_word, largest_literal}
use Rattle.line_forms.specs.declared.keyword.Keyword.{Keyword}
use Rattle.line_forms.specs.declared.lexeme.Lexeme.{Lexeme}
use Rattle.line_forms.specs.declared.lexeme.Lexeme.TheVariants.{Number, Wide, Comma, Close}
use Rattle.line_forms.specs.Lexemes.{keyword_of, name_meaning, symbol_of, meaning_of, lexeme_of, IsLexed}
use Rattle.line_forms.specs.Forms.{signed_size}
use Rattle.line_forms.proofs.Small.{plain_lexemes, small_signed, small_when}
use Rattle.line_forms.proofs.Sound.{short_lexed}
use Rattle.chart_syntax.proofs.CallerLemmas.{or_none}
use Rattle.impl_table.specs.declared.form.ReplyNumber.{ReplyNumber}
use Rattle.impl_table.specs.declared.form.ReplyNumber.TheVariants.{Plain, Negated}
use Rattle.impl_table.specs.declared.form.TableForm.{TableForm}
use Rattle.impl_table.specs.declared.form.TableForm.TheVariants as form
use Rattle.impl_table.specs.Forms.{literal_in, literal_at, IsReplyNumber, number_size, IsReply, IsTableForm, IsSmallReplyNumber, IsSmallTableForm}

-- a lexeme that is no number
abbrev IsOther : Lexeme → Type 0
IsOther x = literal_in (Some x) ≡ None

name_other : (k : Option Keyword) (bytes : List ℕ) → IsOther (name_meaning k bytes)
name_other None bytes = refl
name_other (Some k) bytes = refl

other_if : (b : Bool) (x y : Lexeme) → IsOther x → IsOther y → IsOther (if b then x else y)
other_if true x y p q = p
other_if false x y p q = q

symbol_other : (s : ℕ) → IsOther (symbol_of s)
symbol_other s =
    other_if (s == 60) _ _ refl (other_if (s == 61) _ _ refl (other_if (s == 62) _ _ refl (other_if (s == 188) _ _ refl (other_if (s == 190) _ _ refl
    (other_if (s == 161) _ _ refl (other_if (s == 43) _ _ refl (other_if (s == 45) _ _ refl (other_if (s == 42) _ _ refl (other_if (s == 40) _ _ refl
    (other_if (s == 41) Close Comma refl refl))))))))))

no_literal : (x : Lexeme) (n : ℕ) → IsOther x → literal_in (Some x) ≡ Some n → ⊥
no_literal x n other e = let h : None ≡ Some n = sym other ∙ e in cc

literal_number : (b : Bool) (m n : ℕ) → literal_in (Some (if b then Number m else Wide m)) ≡ Some n → m ≡ n
literal_number true m n e = cc
literal_number false m n e = cc

largest : (after : Bool) → largest_literal after ≤ 1000000000000
largest true = omega arith
largest false = omega arith

within_if : (b : Bool) (m z : ℕ) → int_lt (pos m) (pos z) ≡ b → (if b then Some token_limits.Literal else None) ≡ None → z ≤ m
within_if true m z e h = absurd (cc)
within_if false m z e h = grind (arith, ints, nat_tests)

small_number : (after : Bool) (z n size : ℕ) (bytes : List ℕ) → word_limit after (word.Number (pos z)) size ≡ None
    → literal_in (Some (meaning_of (word.Number (pos z)) bytes)) ≡ Some n → n ≤ 1000000000000
small_number after z n size bytes none e =
    let within = within_if (int_lt (pos (largest_literal after)) (pos z)) (largest_literal after) z refl none in
    let most = largest after in
    let same = literal_number (nat_le z 1000000) z n e in
    omega (arith, within, most, same)

-- the number that a token means is within the limit
small_word : (name digit : Bool) (after : Bool) (z s n size : ℕ) (bytes : List ℕ)
    → word_limit after (if name then word.Name else if digit then word.Number (pos z) else word.Symbol s) size ≡ None
    → literal_in (Some (meaning_of (if name then word.Name else if digit then word.Number (pos z) else word.Symbol s) bytes)) ≡ Some n → n ≤ 1000000000000
small_word true digit after z s n size bytes none e = absurd (no_literal (name_meaning (keyword_of bytes) bytes) n (name_other (keyword_of bytes) bytes) e)
small_word false true after z s n size bytes none e = small_number after z n size bytes none e
small_word false false after z s n size bytes none e = absurd (no_literal (symbol_of s) n (symbol_other s) e)

small_token : (line : List ℕ) (p : Span) (after : Bool) (n : ℕ) → token_limit after (token_at line p) ≡ None
    → literal_in (Some (lexeme_of line (token_at line p))) ≡ Some n → n ≤ 1000000000000
small_token line p after n none e =
    let bytes = run line p.from p.to in
    small_word (starts starts_name bytes) (starts is_ascii_digit bytes) after (decimal_value bytes) (symbol_number bytes) n (p.to - p.from)
    (spelling line (token_at line p)) none e

small_tokens : (line : List ℕ) (after : Bool) (ps : List Span) (i n : ℕ) → first_limit line after (map (token_at line) ps) ≡ None
    → literal_at (map (lexeme_of line) (map (token_at line) ps)) i ≡ Some n → n ≤ 1000000000000
small_tokens line after [] i n none e = absurd (cc)
small_tokens line after (p ∷ ps) zero n none e =
    let t = token_at line p in
    let h = or_none (token_limit after t) (first_limit line (after || is_word line (codes "gives") t) (map (token_at line) ps)) none in
    small_token line p after n h.0 e
small_tokens line after (p ∷ ps) (suc i) n none e =
    let t = token_at line p in
    let later = after || is_word line (codes "gives") t in
    let h = or_none (token_limit after t) (first_limit line later (map (token_at line) ps)) none in
    small_tokens line later ps i n h.1 e

small_literal : (line : List ℕ) (ts : List Lexeme) (i n : ℕ) → IsLexed line ts → literal_at ts i ≡ Some n → n ≤ 1000000000000
small_literal line ts i n lexed e =
    let content = content_of line in
    let are = lexed.tokenized.tokenized.are in
    let spans = lexed.tokenized.tokenized.spans in
    let first : first_limit content false lexed.tokens ≡ None = (or_none (first_limit content false lexed.tokens) _ lexed.tokenized.unlimited).0 in
    small_tokens content false spans i n (subst (λ xs. first_limit content false xs ≡ None) are first)
    (sym (ap (λ xs. literal_at xs i) (lexed.mean ∙ ap (map (lexeme_of content)) are)) ∙ e)

small_reply_number : (line : List ℕ) (ts : List Lexeme) (i : ℕ) (x : ReplyNumber) → IsLexed line ts → IsReplyNumber ts i x → IsSmallReplyNumber x
small_reply_number line ts i (Plain n) lexed h = small_literal line ts i n lexed h
small_reply_number line ts i (Negated n) lexed h = small_literal line ts (i + 1) n lexed h.1

small_reply : (line : List ℕ) (ts : List Lexeme) (i : ℕ) (xs : List ReplyNumber) → IsLexed line ts → IsReply ts i xs → All IsSmallReplyNumber xs
small_reply line ts i [] lexed h = All-nil IsSmallReplyNumber
small_reply line ts i (x ∷ xs) lexed h = All-cons IsSmallReplyNumber x xs (small_reply_number line ts i x lexed h.0)
    (small_reply line ts (i + number_size x) xs lexed h.1)

pub small_table : (line : List ℕ) (ts : List Lexeme) (said : TableForm) → IsLexed line ts → IsTableForm ts said → IsSmallTableForm said
small_table line ts (form.Version n) lexed h = tt
small_table line ts (form.Input f) lexed h = let plain = plain_lexemes line ts lexed in
    (small_signed ts 2 f.lo plain h.2, small_signed ts (2 + signed_size f.lo) f.hi plain h.3)
small_table line ts (form.Output name) lexed h = tt
small_table line ts (form.State f) lexed h = small_reply line ts 3 f.reply lexed h.3
small_table line ts (form.Row f) lexed h = (
  small_reply line ts _ f.reply lexed h.reply,
  small_when line ts h.when f.guard lexed (short_lexed line ts lexed) h.guarded h.guard,
)
