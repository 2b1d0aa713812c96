-- A line has no more than one list of tokens.
use Rattle.std.proofs.Common.{◌≡◌, ℕ, ◌-◌, ◌<◌, ◌≤◌, List, [], ◌∷◌, length, drop, map, refl, sym, ◌∙◌, ap, arith}
use Rattle.std.proofs.lemmas.List.{length-drop}
use Rattle.line_tokens.specs.declared.span.Span.{Span}
use Rattle.line_tokens.specs.declared.token.Token.{Token}
use Rattle.line_tokens.specs.Tokens.{HasSpans, IsFirstToken, IsTokenized, token_at}
use Rattle.line_tokens.proofs.Scanning.{first_only}

first_of_spans : (line : List ℕ) (at : ℕ) (p : Span) (ps : List Span) → HasSpans line at (p ∷ ps) → IsFirstToken line at p
first_of_spans line at p ps h =
    let fits : p.to - p.from ≤ length (drop p.from line) = h.3.within in
    let left = length-drop p.from line in
    let wide : 0 < p.to - p.from = h.3.some in
    let some = h.1 in
    record { after = h.0; some = h.1; within = omega (arith, fits, left, wide, some); blank = h.2; longest = h.3 }

one_spans : (line : List ℕ) (at : ℕ) (ps qs : List Span) → HasSpans line at ps → HasSpans line at qs → ps ≡ qs
one_spans line at [] [] h k = refl
one_spans line at [] (q ∷ qs) h k = let e = (first_only line at q (first_of_spans line at q qs k) [] h).1 in absurd (cc)
one_spans line at (p ∷ ps) qs h k =
    let r = first_only line at p (first_of_spans line at p ps h) qs k in
    ap (λ rest. p ∷ rest) (one_spans line p.to ps r.0 h.4 r.2) ∙ sym r.1

pub one_tokens : (line : List ℕ) (tokens others : List Token) → IsTokenized line tokens → IsTokenized line others → tokens ≡ others
one_tokens line tokens others t u = t.are ∙ ap (map (token_at line)) (one_spans line 0 t.spans u.spans t.stand u.stand) ∙ sym u.are
