-- The pieces of a line and of a text, put together again.
use Rattle.std.proofs.Common.{◌≡◌, ℕ, Bool, true, false, cond, eqb, List, [], ◌∷◌, ◌++◌, map, refl, ap, sym, ◌∙◌, subst, append_assoc, append-nil, arith, length, ◌<◌}
use Rattle.std.specs.List.{flat_map}
use Rattle.std.proofs.lemmas.Bool.Decides.{Decides-eqb}
use Rattle.strict_lines.specs.Numbers.{is_number, number_value}
use Rattle.strict_lines.specs.Lines.{Number, Word, spelled, tail_text, line_text, onto, pieces_between, token_of, line_tokens, IsSmall, AreSmall}
use Rattle.strict_lines.proofs.Back.{printed}

abbrev pieces : List ℕ → List (List ℕ)
pieces bs = pieces_between 32 bs

abbrev joined : List (List ℕ) → List ℕ
joined [] = []
joined (p ∷ ps) = p ++ flat_map (λ q. 32 ∷ q) ps

joined_onto : (b : ℕ) (ps : List (List ℕ)) → joined (onto b ps) ≡ b ∷ joined ps
joined_onto b [] = refl
joined_onto b (p ∷ ps) = refl

-- there is always a first piece
pieces_some : (bs : List ℕ) → (p : List ℕ) × (ps : List (List ℕ)) × (pieces bs ≡ p ∷ ps)
pieces_some [] = ([], [], refl)
pieces_some (b ∷ bs) = by (eqb b 32)
  where
    some : (qs : List (List ℕ)) → (p : List ℕ) × (ps : List (List ℕ)) × (onto b qs ≡ p ∷ ps)
    some [] = (b ∷ [], [], refl)
    some (q ∷ qs) = (b ∷ q, qs, refl)

    by : (c : Bool) → (p : List ℕ) × (ps : List (List ℕ)) × (cond c ([] ∷ pieces bs) (onto b (pieces bs)) ≡ p ∷ ps)
    by true = ([], pieces bs, refl)
    by false = some (pieces bs)

joined_space : (bs : List ℕ) → joined ([] ∷ pieces bs) ≡ 32 ∷ joined (pieces bs)
joined_space bs = let s = pieces_some bs in ap (λ (x : List (List ℕ)). joined ([] ∷ x)) s.2 ∙ sym (ap (λ (x : List (List ℕ)). 32 ∷ joined x) s.2)

joined_by : (b : ℕ) (bs : List ℕ) (c : Bool) → eqb b 32 ≡ c → joined (pieces bs) ≡ bs → joined (cond c ([] ∷ pieces bs) (onto b (pieces bs))) ≡ b ∷ bs
joined_by b bs true e back = joined_space bs ∙ ap (λ x. 32 ∷ x) back ∙ ap (λ x. x ∷ bs) (sym ((Decides-eqb b 32).0 e))
joined_by b bs false e back = joined_onto b (pieces bs) ∙ ap (λ x. b ∷ x) back

pub joined_back : (bs : List ℕ) → joined (pieces bs) ≡ bs
joined_back [] = refl
joined_back (b ∷ bs) = joined_by b bs (eqb b 32) refl (joined_back bs)

spelled_back : (p : List ℕ) → IsSmall (token_of p) → spelled (token_of p) ≡ p
spelled_back p small = by (is_number p) refl small
  where
    by : (c : Bool) → is_number p ≡ c → IsSmall (cond c (Number (number_value p)) (Word p)) → spelled (cond c (Number (number_value p)) (Word p)) ≡ p
    by true e h = printed p e h
    by false e h = refl

tail_back : (ps : List (List ℕ)) → AreSmall (map token_of ps) → tail_text (map token_of ps) ≡ flat_map (λ q. 32 ∷ q) ps
tail_back [] h = refl
tail_back (p ∷ ps) h = ap (λ x. 32 ∷ (x ++ tail_text (map token_of ps))) (spelled_back p h.0) ∙ ap (λ x. 32 ∷ (p ++ x)) (tail_back ps h.1)

tokens_printed : (p : List ℕ) (ps : List (List ℕ)) → AreSmall (map token_of (p ∷ ps)) → line_text (map token_of (p ∷ ps)) ≡ joined (p ∷ ps) ++ 10 ∷ []
tokens_printed p ps h = ap (λ x. (x ++ tail_text (map token_of ps)) ++ 10 ∷ []) (spelled_back p h.0) ∙ ap (λ x. (p ++ x) ++ 10 ∷ []) (tail_back ps h.1)

pub line_printed : (bs : List ℕ) → AreSmall (line_tokens bs) → line_text (line_tokens bs) ≡ bs ++ 10 ∷ []
line_printed bs h =
    let s = pieces_some bs in
    ap (λ (x : List (List ℕ)). line_text (map token_of x)) s.2 ∙ tokens_printed s.0 s.1 (subst (λ (x : List (List ℕ)). AreSmall (map token_of x)) s.2 h)
    ∙ ap (λ (x : List (List ℕ)). joined x ++ 10 ∷ []) (sym s.2) ∙ ap (λ x. x ++ 10 ∷ []) (joined_back bs)

-- the text of lines that each have a line feed
abbrev closed : List (List ℕ) → List ℕ
closed lines = flat_map (λ line. line ++ 10 ∷ []) lines

-- lines, of which the last has no line feed
abbrev ended : List (List ℕ) → List ℕ
ended [] = []
ended (l ∷ []) = l
ended (l ∷ m ∷ ls) = l ++ 10 ∷ ended (m ∷ ls)

ended_onto : (b : ℕ) (ls : List (List ℕ)) → ended (onto b ls) ≡ b ∷ ended ls
ended_onto b [] = refl
ended_onto b (l ∷ []) = refl
ended_onto b (l ∷ m ∷ ls) = refl

ended_some : (l : List ℕ) (b : ℕ) (bs : List ℕ) → ended (l ∷ pieces_between 10 bs) ≡ l ++ 10 ∷ ended (pieces_between 10 bs)
ended_some l b bs = by (pieces_between 10 bs) (lines_some bs)
  where
    lines_some : (bs : List ℕ) → 0 < length (pieces_between 10 bs)
    lines_some [] = omega arith
    lines_some (b ∷ bs) = some (eqb b 10)
      where
        onto_some : (qs : List (List ℕ)) → 0 < length (onto b qs)
        onto_some [] = omega arith
        onto_some (q ∷ qs) = omega arith

        some : (c : Bool) → 0 < length (cond c ([] ∷ pieces_between 10 bs) (onto b (pieces_between 10 bs)))
        some true = omega arith
        some false = onto_some (pieces_between 10 bs)

    by : (ls : List (List ℕ)) → 0 < length ls → ended (l ∷ ls) ≡ l ++ 10 ∷ ended ls
    by [] h = absurd (omega arith)
    by (m ∷ ls) h = refl

ended_by : (b : ℕ) (bs : List ℕ) (c : Bool) → eqb b 10 ≡ c → ended (pieces_between 10 bs) ≡ bs → ended (cond c ([] ∷ pieces_between 10 bs) (onto b (pieces_between 10 bs))) ≡ b ∷ bs
ended_by b bs true e back = ended_some [] b bs ∙ ap (λ x. 10 ∷ x) back ∙ ap (λ x. x ∷ bs) (sym ((Decides-eqb b 10).0 e))
ended_by b bs false e back = ended_onto b (pieces_between 10 bs) ∙ ap (λ x. b ∷ x) back

ended_back : (bs : List ℕ) → ended (pieces_between 10 bs) ≡ bs
ended_back [] = refl
ended_back (b ∷ bs) = ended_by b bs (eqb b 10) refl (ended_back bs)

closed_ended : (lines : List (List ℕ)) → ended (lines ++ [] ∷ []) ≡ closed lines
closed_ended [] = refl
closed_ended (l ∷ []) = sym (append-nil (l ++ 10 ∷ []))
closed_ended (l ∷ m ∷ ls) = ap (λ x. l ++ 10 ∷ x) (closed_ended (m ∷ ls)) ∙ sym (append_assoc l (10 ∷ []) (closed (m ∷ ls)))

pub lines_closed : (text : List ℕ) (lines : List (List ℕ)) → pieces_between 10 text ≡ lines ++ [] ∷ [] → closed lines ≡ text
lines_closed text lines e = sym (closed_ended lines) ∙ ap ended (sym e) ∙ ended_back text
