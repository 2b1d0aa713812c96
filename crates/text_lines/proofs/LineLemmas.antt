use Rattle.std.proofs.Common.{◌≡◌, ℕ, suc, ◌+◌, ◌<◌, ◌≤◌, Bool, true, false, not, ◌==◌, List, [], ◌∷◌, length, take, drop, cond, refl, ap, arith}
use Rattle.std.specs.List.{prefix_len}
use Rattle.text_lines.specs.Lines.{lines_of, onto}

-- how many bytes stand before the first line feed
abbrev pub before_feed : List ℕ → ℕ
before_feed text = prefix_len (λ b. not (b == 10)) text

feed-at : (b : ℕ) (bs : List ℕ) (v : Bool) → (b == 10) ≡ v
    → (before_feed bs < length bs → lines_of bs ≡ take (before_feed bs) bs ∷ lines_of (drop (before_feed bs + 1) bs))
    → cond (not v) (1 + before_feed bs) 0 < suc (length bs) → lines_of (b ∷ bs) ≡ take (cond (not v) (1 + before_feed bs) 0) (b ∷ bs) ∷ lines_of
    (drop (cond (not v) (1 + before_feed bs) 0 + 1) (b ∷ bs))
feed-at b bs true e rest h = rw e refl
feed-at b bs false e rest h =
    let one : 1 + before_feed bs ≡ suc (before_feed bs) = omega arith in
    let two : suc (before_feed bs) + 1 ≡ suc (before_feed bs + 1) = omega arith in
    rw (e, one, two) (ap (onto b) (rest (omega arith)))

-- where a line feed stands, the text before it is the first line
pub lines_of-feed : (text : List ℕ) → before_feed text < length text
    → lines_of text ≡ take (before_feed text) text ∷ lines_of (drop (before_feed text + 1) text)
lines_of-feed [] h = absurd (omega arith)
lines_of-feed (b ∷ bs) h = feed-at b bs (b == 10) refl (lines_of-feed bs) h

-- the only line of a text with no line feed, or none
abbrev alone : List ℕ → List (List ℕ)
alone [] = []
alone (b ∷ bs) = (b ∷ bs) ∷ []

end-at : (b : ℕ) (bs : List ℕ) (v : Bool) → (b == 10) ≡ v → (length bs ≤ before_feed bs → lines_of bs ≡ alone bs)
    → suc (length bs) ≤ cond (not v) (1 + before_feed bs) 0 → lines_of (b ∷ bs) ≡ (b ∷ bs) ∷ []
end-at b bs true e rest h = absurd (omega arith)
end-at b [] false e rest h = rw e refl
end-at b (c ∷ bs) false e rest h = rw e (ap (onto b) (rest (omega arith)))

lines_of-alone : (text : List ℕ) → length text ≤ before_feed text → lines_of text ≡ alone text
lines_of-alone [] h = refl
lines_of-alone (b ∷ bs) h = end-at b bs (b == 10) refl (lines_of-alone bs) h

-- where none stands, the text is its only line
pub lines_of-end : (text : List ℕ) → 0 < length text → length text ≤ before_feed text → lines_of text ≡ text ∷ []
lines_of-end [] some h = absurd (omega arith)
lines_of-end (b ∷ bs) some h = lines_of-alone (b ∷ bs) h
