use Rattle.std.proofs.Common.{◌≡◌, ℕ, zero, suc, ◌+◌, ◌-◌, ◌<◌, ◌≤◌, Bool, false, ◌||◌, List, [], ◌∷◌, ◌++◌, length, take, drop, map, get_or}
use Rattle.std.proofs.Common.{codes, Some, None, refl, sym, ◌∙◌, ap, subst, arith}
use Rattle.std.proofs.lemmas.List.{drop_more, length-drop, take_more, map-append}
use Rattle.std.proofs.lemmas.List.Elements.{All-nil, All-cons}
use Rattle.std.proofs.Math.ListN.{drop_of_length-le}
use Rattle.line_tokens.specs.declared.span.Span.{Span}
use Rattle.line_tokens.specs.declared.token.Token.{Token}
use Rattle.line_tokens.specs.declared.error.TokenLimit.{TokenLimit}
use Rattle.line_tokens.specs.Tokens.{HasSpans, IsLongestToken, IsSpan, IsInside, token_at}
use Rattle.std.specs.Prelude.{All}
use Rattle.line_tokens.specs.declared.error.TokenError.{TokenError}
use Rattle.line_tokens.specs.declared.error.TokenError.TheVariants.{Byte, Limit, Memory}
use Rattle.line_tokens.specs.Lines.{content_of}
use Rattle.line_tokens.specs.Limits.{first_limit, token_limit, is_word, IsLimited, IsRefused}

span_of_token : (line : List ℕ) (q : Span) → q.from < q.to → IsLongestToken (drop q.from line) (q.to - q.from) → IsSpan line q
span_of_token line q some t =
    let fits : q.to - q.from ≤ length (drop q.from line) = t.within in
    let left = length-drop q.from line in
    let wide : 0 < q.to - q.from = t.some in
    record { order = omega (arith, some); within = omega (arith, fits, left, wide, some); token = t.token }

-- each of the spans is that of a token
pub each_span : (line : List ℕ) (at : ℕ) (ps : List Span) (i : ℕ) (d : Span) → HasSpans line at ps → i < length ps → IsSpan line (get_or ps i d)
each_span line at [] i d h less = absurd (omega arith)
each_span line at (q ∷ qs) zero d h less = span_of_token line q h.1 h.3
each_span line at (q ∷ qs) (suc i) d h less = each_span line q.to qs i d h.4 (omega arith)

-- the tokens of the spans before the i-th, and what the limits of all are as seen from there
pub record IsReadTo (line : List ℕ) (spans : List Span) (i : ℕ) (after_gives : Bool) (tokens : List Token) : Type 0 where
  pub items : tokens ≡ map (token_at line) (take i spans)
  pub limits : first_limit line false (map (token_at line) spans) ≡ first_limit line after_gives (map (token_at line) (drop i spans))

first_limit-none : (line : List ℕ) (after : Bool) (t : Token) (ts : List Token) → token_limit after t ≡ None
    → first_limit line after (t ∷ ts) ≡ first_limit line (after || is_word line (codes "gives") t) ts
first_limit-none line after t ts e = rw e refl

first_limit-some : (line : List ℕ) (after : Bool) (t : Token) (ts : List Token) (l : TokenLimit) → token_limit after t ≡ Some l
    → first_limit line after (t ∷ ts) ≡ Some l
first_limit-some line after t ts l e = rw e refl

pub read_limited : (line : List ℕ) (spans : List Span) (i : ℕ) (d : Span) (after : Bool) (tokens : List Token) (l : TokenLimit)
    → IsReadTo line spans i after tokens → i < length spans → token_limit after (token_at line (get_or spans i d)) ≡ Some l
    → first_limit line false (map (token_at line) spans) ≡ Some l
read_limited line spans i d after tokens l r less e = r.limits ∙ ap (λ ps. first_limit line after (map (token_at line) ps))
    (drop_more spans i d less) ∙ first_limit-some line after (token_at line (get_or spans i d)) (map (token_at line) (drop (i + 1) spans)) l e

pub read_more : (line : List ℕ) (spans : List Span) (i : ℕ) (d : Span) (after : Bool) (tokens : List Token)
    → IsReadTo line spans i after tokens → i < length spans → token_limit after (token_at line (get_or spans i d)) ≡ None
    → IsReadTo line spans (i + 1) (after || is_word line (codes "gives") (token_at line (get_or spans i d)))
    (tokens ++ token_at line (get_or spans i d) ∷ [])
read_more line spans i d after tokens r less e = record {
  items = ap (λ ts. ts ++ token_at line (get_or spans i d) ∷ []) r.items
      ∙ sym (ap (map (token_at line)) (take_more spans i d less) ∙ map-append (token_at line) (take i spans) (get_or spans i d ∷ []));
  limits = r.limits ∙ ap (λ ps. first_limit line after (map (token_at line) ps)) (drop_more spans i d less)
      ∙ first_limit-none line after (token_at line (get_or spans i d)) (map (token_at line) (drop (i + 1) spans)) e;
}

pub read_end : (line : List ℕ) (spans : List Span) (i : ℕ) (after : Bool) (tokens : List Token) → IsReadTo line spans i after tokens
    → length spans ≤ i → first_limit line false (map (token_at line) spans) ≡ None
read_end line spans i after tokens r all = r.limits ∙ ap (λ ps. first_limit line after (map (token_at line) ps)) (drop_of_length-le spans all)

pub inside_span : (line : List ℕ) (p : Span) (t : Token) → IsSpan line p → t ≡ token_at line p → IsInside line t
inside_span line p t h e = let P : Token → Type 0 = λ u. IsInside line u in subst P (sym e) (h.order, h.within)

-- the tokens at the spans stand inside the line
pub all_inside : (line : List ℕ) (at : ℕ) (ps : List Span) → HasSpans line at ps → All (IsInside line) (map (token_at line) ps)
all_inside line at [] h = All-nil (IsInside line)
all_inside line at (q ∷ qs) h = let p = span_of_token line q h.1 h.3 in
    All-cons (IsInside line) (token_at line q) (map (token_at line) qs) (p.order, p.within) (all_inside line q.to qs h.4)

-- the first limit of the numbers and names is the first of all
pub refused_first : (line : List ℕ) (ps : List Span) (e : TokenError) → HasSpans (content_of line) 0 ps
    → IsLimited (content_of line) (map (token_at (content_of line)) ps) e → IsRefused line e
refused_first line ps Byte h l = absurd l
refused_first line ps (Limit w) h l = (map (token_at (content_of line)) ps, record { spans = ps; stand = h; are = refl }, rw l refl)
refused_first line ps Memory h l = tt

pub refused_in : (content line : List ℕ) (ps : List Span) (e : TokenError) → content ≡ content_of line → HasSpans content 0 ps
    → IsLimited content (map (token_at content) ps) e → IsRefused line e
refused_in content line ps e same h l =
    let P : List ℕ → Type 0 = λ xs. HasSpans xs 0 ps → IsLimited xs (map (token_at xs) ps) e → IsRefused line e in
    subst P (sym same) (refused_first line ps e) h l

pub inside_tokens : (line : List ℕ) (ps : List Span) (ts : List Token) → ts ≡ map (token_at line) ps → HasSpans line 0 ps → All (IsInside line) ts
inside_tokens line ps ts e h = let P : List Token → Type 0 = λ us. All (IsInside line) us in subst P (sym e) (all_inside line 0 ps h)
