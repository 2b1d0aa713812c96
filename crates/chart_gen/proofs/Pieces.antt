-- Lines put one piece after another.
use Rattle.std.proofs.Common.{◌≡◌, ℕ, suc, ◌+◌, ◌-◌, ◌*◌, List, ◌++◌, sym, ◌∙◌, ap, arith, append_assoc}
use Rattle.std.specs.Prelude.{codes}
use Rattle.std.specs.Fmt.{decimal}
use Rattle.chart_gen.specs.Generated.{state_line, state_lines, up_line, down_line, transition_lines}

next : (t a w d x y : List ℕ) → x ≡ t ++ a → y ≡ x ++ w ++ d → y ≡ t ++ (a ++ w ++ d)
next t a w d x y p e = e ∙ ap (λ l. l ++ w ++ d) p ∙ ap (λ l. l ++ d) (append_assoc t a w) ∙ append_assoc t (a ++ w) d

last : (t a w x y : List ℕ) → x ≡ t ++ a → y ≡ x ++ w → y ≡ t ++ (a ++ w)
last t a w x y p e = e ∙ ap (λ l. l ++ w) p ∙ append_assoc t a w

-- four words, each with a number, and the end of the line
joined : (w1 d1 w2 d2 w3 d3 w4 d4 w t x1 x2 x3 x4 y : List ℕ) → x1 ≡ t ++ w1 ++ d1 → x2 ≡ x1 ++ w2 ++ d2 → x3 ≡ x2 ++ w3 ++ d3 → x4 ≡ x3 ++ w4 ++ d4 → y ≡ x4 ++ w → y ≡ t ++ (w1 ++ d1 ++ w2 ++ d2 ++ w3 ++ d3 ++ w4 ++ d4 ++ w)
joined w1 d1 w2 d2 w3 d3 w4 d4 w t x1 x2 x3 x4 y e1 e2 e3 e4 e =
    let a1 = w1 ++ d1 in
    let a2 = a1 ++ w2 ++ d2 in
    let a3 = a2 ++ w3 ++ d3 in
    last t (a3 ++ w4 ++ d4) w x4 y (next t a3 w4 d4 x3 x4 (next t a2 w3 d3 x2 x3 (next t a1 w2 d2 x1 x2 (e1 ∙ append_assoc t w1 d1) e2) e3) e4) e

pub up : (i : ℕ) (t x1 x2 x3 x4 y : List ℕ) → x1 ≡ t ++ codes "on s" ++ decimal i → x2 ≡ x1 ++ codes " when v >= " ++ decimal (10 * (i + 1)) → x3 ≡ x2 ++ codes " do o = " ++ decimal (i + 1) → x4 ≡ x3 ++ codes " go s" ++ decimal (i + 1) → y ≡ x4 ++ codes "\n" → y ≡ t ++ up_line i
up i t x1 x2 x3 x4 y e1 e2 e3 e4 e =
    joined (codes "on s") (decimal i) (codes " when v >= ") (decimal (10 * (i + 1))) (codes " do o = ") (decimal (i + 1)) (codes " go s") (decimal (i + 1)) (codes "\n") t x1 x2 x3 x4 y e1 e2 e3 e4 e

pub down : (gap i : ℕ) (t x1 x2 x3 x4 y : List ℕ) → x1 ≡ t ++ codes "on s" ++ decimal (i + 1) → x2 ≡ x1 ++ codes " when v < " ++ decimal (10 * (i + 1) - gap) → x3 ≡ x2 ++ codes " do o = " ++ decimal i → x4 ≡ x3 ++ codes " go s" ++ decimal i → y ≡ x4 ++ codes "\n" → y ≡ t ++ down_line gap i
down gap i t x1 x2 x3 x4 y e1 e2 e3 e4 e =
    joined (codes "on s") (decimal (i + 1)) (codes " when v < ") (decimal (10 * (i + 1) - gap)) (codes " do o = ") (decimal i) (codes " go s") (decimal i) (codes "\n") t x1 x2 x3 x4 y e1 e2 e3 e4 e

-- one line more
pub one_state : (n : ℕ) (t x y : List ℕ) → x ≡ t ++ state_lines n → y ≡ x ++ state_line n → y ≡ t ++ state_lines (n + 1)
one_state n t x y p e =
    let more : n + 1 ≡ suc n = omega arith in
    last t (state_lines n) (state_line n) x y p e ∙ ap (λ k. t ++ state_lines k) (sym more)

-- two lines more
pub one_pair : (gap n : ℕ) (t x y z : List ℕ) → x ≡ t ++ transition_lines gap n → y ≡ x ++ up_line n → z ≡ y ++ down_line gap n → z ≡ t ++ transition_lines gap (n + 1)
one_pair gap n t x y z p e f =
    let more : n + 1 ≡ suc n = omega arith in
    next t (transition_lines gap n) (up_line n) (down_line gap n) x z p (f ∙ ap (λ l. l ++ down_line gap n) e) ∙ ap (λ k. t ++ transition_lines gap k) (sym more)
