-- The first piece of a line.
use Rattle.std.proofs.Common.{◌≡◌, ◌≢◌, ℕ, zero, suc, ◌+◌, ◌-◌, ◌<◌, ◌≤◌, cond, List, [], ◌∷◌, ◌++◌, length, take, drop, get_or, map, refl, sym, ap, ◌∙◌, arith, ◌⊎◌, inl, inr, append_assoc, length-drop, eq-eqb}
use Rattle.std.proofs.lemmas.Bool.{ne_eqb, cases_lt}
use Rattle.std.proofs.lemmas.List.{get_or-drop, drop-drop, take_all}
use Rattle.std.proofs.lemmas.List.{map-append}
use Rattle.strict_lines.specs.Lines.{pieces_between as cut, onto, token_of, line_tokens}
use Rattle.strict_lines.specs.declared.pieces.Piece.{Piece}
use Rattle.strict_lines.specs.Pieces.{said}
use Rattle.strict_lines.specs.inside.Places.{IsNext}

pub last_piece : (sep : ℕ) (bs : List ℕ) → ((k : ℕ) → k < length bs → get_or bs k 0 ≢ sep) → cut sep bs ≡ bs ∷ []
last_piece sep [] none = refl
last_piece sep (b ∷ bs) none =
    ap (λ c. cond c ([] ∷ cut sep bs) (onto b (cut sep bs))) (ne_eqb b sep (none 0 (omega arith))) ∙ ap (onto b) (last_piece sep bs (λ k h. none (suc k) (omega (arith, h))))

pub first_piece : (sep n : ℕ) (bs : List ℕ) → n < length bs → ((k : ℕ) → k < n → get_or bs k 0 ≢ sep) → get_or bs n 0 ≡ sep → cut sep bs ≡ take n bs ∷ cut sep (drop (suc n) bs)
first_piece sep n [] h none found = absurd (omega (arith, h))
first_piece sep zero (b ∷ bs) h none found = ap (λ c. cond c ([] ∷ cut sep bs) (onto b (cut sep bs))) (eq-eqb b sep found)
first_piece sep (suc n) (b ∷ bs) h none found =
    ap (λ c. cond c ([] ∷ cut sep bs) (onto b (cut sep bs))) (ne_eqb b sep (none 0 (omega arith))) ∙ ap (onto b) (first_piece sep n bs (omega (arith, h)) (λ k l. none (suc k) (omega (arith, l))) found)

-- the rest of a line after a place, cut at the next separator
pub cut_last : (sep : ℕ) (line : List ℕ) (start end : ℕ) → IsNext sep line start end → end ≡ length line → cut sep (drop start line) ≡ drop start line ∷ []
cut_last sep line start end n e = last_piece sep (drop start line) (λ k h. λ is. n.none (start + k) (omega arith) (omega (arith, h, e, length-drop start line)) (sym (get_or-drop start line k 0) ∙ is))

pub cut_first : (sep : ℕ) (line : List ℕ) (start end : ℕ) → IsNext sep line start end → end < length line → cut sep (drop start line) ≡ take (end - start) (drop start line) ∷ cut sep (drop (end + 1) line)
cut_first sep line start end n inside =
    let low : start ≤ end = n.later in
    let back : start + (end - start) ≡ end = omega (arith, low) in
    first_piece sep (end - start) (drop start line) (omega (arith, inside, low, length-drop start line))
    (λ k h. λ is. n.none (start + k) (omega arith) (omega (arith, h, low)) (sym (get_or-drop start line k 0) ∙ is))
    (get_or-drop start line (end - start) 0 ∙ ap (λ k. get_or line k 0) back ∙ n.found inside)
    ∙ ap (λ l. take (end - start) (drop start line) ∷ cut sep l) (drop-drop (suc (end - start)) start line ∙ ap (λ k. drop k line) (let e : start + suc (end - start) ≡ end + 1 = omega (arith, low) in e))

-- what the pieces so far are: with the tokens of the rest they are those of the line
abbrev pub AreSoFar : List ℕ → ℕ → List Piece → Type 0
AreSoFar line start items = line_tokens line ≡ map said items ++ line_tokens (drop start line)

pub pieces_more : (line : List ℕ) (start end : ℕ) (items : List Piece) (p : Piece) → IsNext 32 line start end → end < length line → said p ≡ token_of (take (end - start) (drop start line)) → AreSoFar line start items → AreSoFar line (end + 1) (items ++ p ∷ [])
pieces_more line start end items p n inside is so_far =
    so_far ∙ ap (λ l. map said items ++ map token_of l) (cut_first 32 line start end n inside)
    ∙ ap (λ t. map said items ++ t ∷ line_tokens (drop (end + 1) line)) (sym is)
    ∙ sym (append_assoc (map said items) (said p ∷ []) (line_tokens (drop (end + 1) line)))
    ∙ ap (λ l. l ++ line_tokens (drop (end + 1) line)) (sym (map-append said items (p ∷ [])))

pub pieces_all : (line : List ℕ) (start end : ℕ) (items : List Piece) (p : Piece) → IsNext 32 line start end → end ≡ length line → said p ≡ token_of (take (end - start) (drop start line)) → AreSoFar line start items → map said (items ++ p ∷ []) ≡ line_tokens line
pieces_all line start end items p n e is so_far =
    let whole : take (end - start) (drop start line) ≡ drop start line = take_all (end - start) (drop start line) (omega (arith, e, length-drop start line)) in
    map-append said items (p ∷ []) ∙ ap (λ t. map said items ++ t ∷ []) (is ∙ ap token_of whole)
    ∙ sym (so_far ∙ ap (λ l. map said items ++ map token_of l) (cut_last 32 line start end n e))

pub next_more : (sep : ℕ) (bytes : List ℕ) (start at : ℕ) → ((k : ℕ) → start ≤ k → k < at → get_or bytes k 0 ≢ sep) → get_or bytes at 0 ≢ sep → (k : ℕ) → start ≤ k → k < at + 1 → get_or bytes k 0 ≢ sep
next_more sep bytes start at none here k low high = by (cases_lt k at)
  where
    by : (k < at) ⊎ (at ≤ k) → get_or bytes k 0 ≢ sep
    by (inl l) = none k low l
    by (inr g) = λ is. here (ap (λ j. get_or bytes j 0) (let e : at ≡ k = omega (arith, g, high) in e) ∙ is)
