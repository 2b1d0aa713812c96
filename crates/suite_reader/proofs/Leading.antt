-- The numbers at the front of the tokens of a line, and what stands behind them.
use Rattle.std.proofs.Common.{◌≡◌, ℕ, zero, suc, ◌+◌, ◌-◌, ◌<◌, ◌≤◌, Bool, true, false, cond, ℤ, List, [], ◌∷◌, ◌++◌, length, map, take, drop, get_or, codes, refl, sym, ap, ◌∙◌, subst, arith, Option, None, Some, nat_eq, length-append}
use Rattle.std.specs.Str.{bytes_eq}
use Rattle.std.proofs.lemmas.Bool.Decides.{Decides-eqb}
use Rattle.std.proofs.lemmas.List.{take_at, drop_at}
use Rattle.strict_lines.specs.Lines.{Token, Number, Word}
use Rattle.strict_lines.specs.declared.pieces.Piece.{Piece}
use Rattle.strict_lines.specs.declared.pieces.Piece.TheVariants as piece
use Rattle.strict_lines.specs.Pieces.{said}
use Rattle.suite_reading.specs.inside.Said.{values, with_first, step_values, with_number, after_slash}
use Rattle.suite_reader.specs.inside.Words.{leading, is_slash}
use Rattle.suite_reader.specs.inside.Lines.{IsList, IsStep}

abbrev front : List Piece → List ℤ
front ps = leading (map said ps)

upto : (ps : List Piece) → length (front ps) ≤ length ps
upto [] = omega arith
upto (piece.Number z ∷ ps) = let h = upto ps in omega (arith, h)
upto (piece.Word w ∷ ps) = omega arith

pub values_all : (ps : List Piece) → length (front ps) ≡ length ps → values (map said ps) ≡ Some (front ps)
values_all [] e = refl
values_all (piece.Number z ∷ ps) e = ap (with_first z) (values_all ps (omega (arith, e)))
values_all (piece.Word w ∷ ps) e = absurd (omega (arith, e))

pub values_none : (ps : List Piece) → length (front ps) < length ps → values (map said ps) ≡ None
values_none [] h = absurd (omega (arith, h))
values_none (piece.Number z ∷ ps) h = ap (with_first z) (values_none ps (omega (arith, h)))
values_none (piece.Word w ∷ ps) h = refl

pub is_list : (ps : List Piece) (n : ℕ) (numbers : List ℤ) → n ≡ length (front ps) → n ≤ length ps → numbers ≡ front ps → IsList (map said ps) numbers (nat_eq n (length ps))
is_list ps n numbers size low is = by (nat_eq n (length ps)) refl
  where
    by : (b : Bool) → nat_eq n (length ps) ≡ b → IsList (map said ps) numbers b
    by true e = let same : n ≡ length ps = (Decides-eqb n (length ps)).0 e in values_all ps (sym size ∙ same) ∙ ap (λ (x : List ℤ). Some x) (sym is)
    by false e = values_none ps (less (λ same. let f = (Decides-eqb n (length ps)).1 same in absurd (other (sym f ∙ e))))
      where
        other : true ≡ false → ⊥
        other h = cc

        less : ¬ (n ≡ length ps) → length (front ps) < length ps
        less differ = omega (arith, size, low, differ)

pub step_none : (ps : List Piece) (n : ℕ) → n ≡ length (front ps) → n ≡ length ps → step_values (map said ps) ≡ None
step_none [] n size e = refl
step_none (piece.Number z ∷ ps) zero size e = absurd (omega (arith, e))
step_none (piece.Number z ∷ ps) (suc n) size e = ap (with_number z) (step_none ps n (omega (arith, size)) (omega (arith, e)))
step_none (piece.Word w ∷ ps) n size e = absurd (omega (arith, size, e))

slash_none : (w : List ℕ) (o : Option (List ℤ)) → bytes_eq w (codes "/") ≡ false → after_slash w o ≡ None
slash_none w None e = refl
slash_none w (Some r) e = ap (λ b. cond b (Some ([], r)) None) e

slash_some : (w : List ℕ) (o : Option (List ℤ)) (r : List ℤ) → bytes_eq w (codes "/") ≡ true → o ≡ Some r → after_slash w o ≡ Some ([], r)
slash_some w o r e f = ap (after_slash w) f ∙ ap (λ b. cond b (Some ([], r)) None) e

pub step_other : (ps : List Piece) (n : ℕ) (d : Piece) → n ≡ length (front ps) → n < length ps → is_slash (said (get_or ps n d)) ≡ false → step_values (map said ps) ≡ None
step_other [] n d size h e = absurd (omega (arith, h))
step_other (piece.Number z ∷ ps) zero d size h e = absurd (omega (arith, size))
step_other (piece.Number z ∷ ps) (suc n) d size h e = ap (with_number z) (step_other ps n d (omega (arith, size)) (omega (arith, h)) e)
step_other (piece.Word w ∷ ps) zero d size h e = slash_none w.now (values (map said ps)) e
step_other (piece.Word w ∷ ps) (suc n) d size h e = absurd (omega (arith, size))

pub step_short : (ps : List Piece) (n : ℕ) → n ≡ length (front ps) → n < length ps → values (map said (drop (suc n) ps)) ≡ None → step_values (map said ps) ≡ None
step_short [] n size h e = absurd (omega (arith, h))
step_short (piece.Number z ∷ ps) zero size h e = absurd (omega (arith, size))
step_short (piece.Number z ∷ ps) (suc n) size h e = ap (with_number z) (step_short ps n (omega (arith, size)) (omega (arith, h)) e)
step_short (piece.Word w ∷ ps) zero size h e = ap (after_slash w.now) e
step_short (piece.Word w ∷ ps) (suc n) size h e = absurd (omega (arith, size))

pub step_whole : (ps : List Piece) (n : ℕ) (d : Piece) (r : List ℤ) → n ≡ length (front ps) → n < length ps → is_slash (said (get_or ps n d)) ≡ true → values (map said (drop (suc n) ps)) ≡ Some r
    → step_values (map said ps) ≡ Some (front ps, r)
step_whole [] n d r size h e f = absurd (omega (arith, h))
step_whole (piece.Number z ∷ ps) zero d r size h e f = absurd (omega (arith, size))
step_whole (piece.Number z ∷ ps) (suc n) d r size h e f = ap (with_number z) (step_whole ps n d r (omega (arith, size)) (omega (arith, h)) e f)
step_whole (piece.Word w ∷ ps) zero d r size h e f = slash_some w.now (values (map said ps)) r e f
step_whole (piece.Word w ∷ ps) (suc n) d r size h e f = absurd (omega (arith, size))

-- the numbers of a step, one list behind the other
pub is_step : (ps reply : List Piece) (n m : ℕ) (d : Piece) (first all : List ℤ) → n ≡ length (front ps) → n < length ps → is_slash (said (get_or ps n d)) ≡ true → reply ≡ drop (suc n) ps
    → first ≡ front ps → m ≡ length (front reply) → m ≤ length reply → length reply ≤ m → all ≡ first ++ front reply → IsStep (map said ps) all (Some n)
is_step ps reply n m d first all size inside slash rest is_first many upto_m whole is_all =
    let same : length (front reply) ≡ length reply = omega (arith, many, upto_m, whole) in
    let replied : values (map said (drop (suc n) ps)) ≡ Some (front reply) = subst (λ (x : List Piece). values (map said x) ≡ Some (front reply)) rest (values_all reply same) in
    let cut : take n all ≡ front ps = ap (take n) is_all ∙ take_at first (front reply) n (ap length is_first ∙ sym size) ∙ is_first in
    let left : drop n all ≡ front reply = ap (drop n) is_all ∙ drop_at first (front reply) n (ap length is_first ∙ sym size) in
    let low : n ≤ length all = omega (arith, ap length is_all, length-append first (front reply), size, ap length is_first) in
    (low, step_whole ps n d (front reply) size inside slash replied ∙ (λ i. Some (sym cut i, sym left i)))
