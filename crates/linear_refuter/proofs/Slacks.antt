-- What one literal leaves of a box, from the greatest value of its constraint.
use Rattle.std.proofs.Common.{◌≡◌, ℕ, zero, suc, ◌<◌, ℤ, pos, negsuc, ◌+ℤ◌, ◌-ℤ◌, ◌*ℤ◌, ◌≤ℤ◌, ◌<ℤ◌, neg_ℤ, Bool, true, false, List, [], ◌∷◌, length, get_or, set, ap, arith, inl, inr}
use Rattle.std.specs.Prelude.{Some, slice_get}
use Rattle.std.proofs.lemmas.Int.{ints}
use Rattle.std.proofs.lemmas.List.Elements.{recursion_from_All}
use Rattle.std.proofs.lemmas.Option.{slice_get-get_or}
use Rattle.lin_form.specs.Form.{sum_of_products}
use Rattle.lin_form.specs.Range.{IsInRanges}
use Rattle.lin_form.specs.Atom.{IsAsSaid}
use Rattle.lin_form.specs.declared.literal.Literal.{Literal}
use Rattle.lin_form.proofs.Integers.{mul_sum, neg_product, product_neg}
use Rattle.lin_form.proofs.CallerLemmas.{length-IsInRanges}
use Rattle.linear_refuter.specs.Cut.{IsCut, below, above}
use Rattle.linear_refuter.specs.Sum.{signed, shifted, coefficients_of, constraint, constraint_at, IsShaped}
use Rattle.linear_refuter.specs.Answer.{HasNone}
use Rattle.linear_refuter.specs.TightPart.{IsTightened}
use Rattle.linear_refuter.specs.inside.Ends.{AreBoxEnds, IsSlack, IsShrunk}
use Rattle.linear_refuter.proofs.Integers.{mul_le_positive}
use Rattle.linear_refuter.proofs.Cuts.{split_in}
use Rattle.linear_refuter.proofs.Said.{said_at, said_constraint, sum_signed}
use Rattle.linear_refuter.proofs.TightParts.{within_itself, within_then, within_in, within_width, below_within, above_within}

-- the greatest value of a constraint, from the ends of its atom's sum
pub slack_true : (h : Bool) (s b low high : ℤ) → h ≡ true → low ≤ℤ s → s ≤ℤ high → (signed h s +ℤ shifted h b) ≤ℤ (high +ℤ b)
slack_true true s b low high e l g = omega (arith, ints)
slack_true false s b low high e l g = absurd cc

pub slack_false : (h : Bool) (s b low high : ℤ) → h ≡ false → low ≤ℤ s → s ≤ℤ high → (signed h s +ℤ shifted h b) ≤ℤ (((pos 0 -ℤ low) -ℤ b) -ℤ pos 1)
slack_false true s b low high e l g = absurd cc
slack_false false s b low high e l g = omega (arith, ints)

pub IsSlack-true : (l : Literal) (rs : List (ℤ × ℤ)) (ends : ℤ × ℤ) → l.holds ≡ true → AreBoxEnds rs l.atom.coefficients ends → IsSlack l rs (ends.1 +ℤ l.atom.constant)
IsSlack-true l rs ends e h x i = rw sum_signed (slack_true l.holds (sum_of_products l.atom.coefficients x) l.atom.constant ends.0 ends.1 e (h x i).0 (h x i).1)

pub IsSlack-false : (l : Literal) (rs : List (ℤ × ℤ)) (ends : ℤ × ℤ) → l.holds ≡ false → AreBoxEnds rs l.atom.coefficients ends → IsSlack l rs (((pos 0 -ℤ ends.0) -ℤ l.atom.constant) -ℤ pos 1)
IsSlack-false l rs ends e h x i = rw sum_signed (slack_false l.holds (sum_of_products l.atom.coefficients x) l.atom.constant ends.0 ends.1 e (h x i).0 (h x i).1)

below_limit : (h : Bool) (s b : ℤ) → h ≡ false → pos 0 ≤ℤ (signed h s +ℤ shifted h b) → s ≤ℤ ((pos 0 -ℤ b) -ℤ pos 1)
below_limit true s b e h = absurd cc
below_limit false s b e h = omega (arith, ints)

-- the sum of a literal that says that its atom does not hold
pub said_below : (l : Literal) (x : List ℤ) → l.holds ≡ false → IsAsSaid l x → sum_of_products l.atom.coefficients x ≤ℤ ((pos 0 -ℤ l.atom.constant) -ℤ pos 1)
said_below l x e s = below_limit l.holds (sum_of_products l.atom.coefficients x) l.atom.constant e (rw sum_signed at (said_constraint l x s))

pub IsShrunk-same : (l : Literal) (rs : List (ℤ × ℤ)) → IsShrunk l rs rs
IsShrunk-same l rs = record { within = within_itself rs; keeps = λ x h k. h }

pub IsShrunk-then : (l : Literal) (rs ss ts : List (ℤ × ℤ)) → IsShrunk l rs ss → IsShrunk l ss ts → IsShrunk l rs ts
IsShrunk-then l rs ss ts h k = record { within = within_then ts ss rs k.within h.within; keeps = λ x i s. k.keeps x (h.keeps x i s) s }

pub IsSlack-narrowed : (l : Literal) (rs ss : List (ℤ × ℤ)) (slack : ℤ) → IsShrunk l rs ss → IsSlack l rs slack → IsSlack l ss slack
IsSlack-narrowed l rs ss slack n h x i = h x (within_in ss rs x n.within i)

-- the vectors on which all literals are as they say are among those on which one's constraint holds
pub IsTightened-narrowed : (ls : List Literal) (i : ℕ) (l : Literal) (rs ss : List (ℤ × ℤ)) → i < length ls → l ≡ get_or ls i l → IsShrunk l rs ss → IsTightened ls rs ss
IsTightened-narrowed ls i l rs ss h q n = record {
  within = n.within;
  keeps = λ x k s.
      let p = said_at ls x i (recursion_from_All _ ls s) in
      let e = ap (λ o. constraint_at o x) (slice_get-get_or ls i l h) in
      let f = ap (λ m. constraint m x) q in
      n.keeps x k (omega (arith, ints, p, e, f));
}

pub HasNone-slack : (ls : List Literal) (i : ℕ) (l : Literal) (rs : List (ℤ × ℤ)) (slack : ℤ) → i < length ls → l ≡ get_or ls i l → IsSlack l rs slack → slack <ℤ pos 0 → HasNone ls rs
HasNone-slack ls i l rs slack h q k n x g s =
    let p = said_at ls x i (recursion_from_All _ ls s) in
    let e = ap (λ o. constraint_at o x) (slice_get-get_or ls i l h) in
    let f = ap (λ t. constraint t x) q in
    let m = k x g in
    omega (arith, ints, p, e, f, m, n)

-- a literal read from a list that fits a box fits each part of it
pub width_read : (ls : List Literal) (i : ℕ) (l : Literal) (rs ss : List (ℤ × ℤ)) → i < length ls → l ≡ get_or ls i l → IsShaped ls rs → IsTightened ls rs ss → length l.atom.coefficients ≡ length ss
width_read ls i l rs ss h q s t =
    let e = ap (λ (m : Literal). length m.atom.coefficients) q in
    let n = within_width ss rs t.within in
    let k = s i l h in
    omega (arith, e, n, k)

-- a vector with another number at one place
sum_set : (cs xs : List ℤ) (v : ℕ) (e : ℤ) → v < length xs → sum_of_products cs (set xs v e) ≡ sum_of_products cs xs +ℤ (get_or cs v (pos 0) *ℤ (e -ℤ get_or xs v (pos 0)))
sum_set cs [] v e h = absurd (omega (arith, h))
sum_set [] (x ∷ xs) zero e h = omega (arith, ints)
sum_set [] (x ∷ xs) (suc v) e h = omega (arith, ints)
sum_set (c ∷ cs) (x ∷ xs) zero e h =
    let p = mul_sum c e (neg_ℤ x) in
    let q = product_neg c x in
    omega (arith, ints)
sum_set (c ∷ cs) (x ∷ xs) (suc v) e h = let k = sum_set cs xs v e (omega (arith, h)) in omega (arith, ints)

set_in : (rs : List (ℤ × ℤ)) (xs : List ℤ) (v : ℕ) (r : ℤ × ℤ) (e : ℤ) → slice_get rs v ≡ Some r → r.0 ≤ℤ e → e ≤ℤ r.1 → IsInRanges rs xs → IsInRanges rs (set xs v e)
set_in [] xs v r e s l g h = absurd cc
set_in (q ∷ rs) [] v r e s l g h = absurd h
set_in (q ∷ rs) (x ∷ xs) zero r e s l g h = let k : r ≡ q = cc in ((omega (arith, ints, ap (λ (t : ℤ × ℤ). t.0) k, l), omega (arith, ints, ap (λ (t : ℤ × ℤ). t.1) k, g)), h.1)
set_in (q ∷ rs) (x ∷ xs) (suc v) r e s l g h = (h.0, set_in rs xs v r e s l g h.1)

below_number : (rs : List (ℤ × ℤ)) (xs : List ℤ) (v : ℕ) (cut : ℤ) → IsCut rs v cut → IsInRanges (below rs v cut) xs → get_or xs v (pos 0) ≤ℤ cut
below_number [] xs v cut c h = absurd c
below_number (r ∷ rs) [] zero cut c h = absurd h
below_number (r ∷ rs) [] (suc v) cut c h = absurd h
below_number (r ∷ rs) (x ∷ xs) zero cut c h = h.0.1
below_number (r ∷ rs) (x ∷ xs) (suc v) cut c h = below_number rs xs v cut c h.1

above_number : (rs : List (ℤ × ℤ)) (xs : List ℤ) (v : ℕ) (cut : ℤ) → IsCut rs v cut → IsInRanges (above rs v cut) xs → cut <ℤ get_or xs v (pos 0)
above_number [] xs v cut c h = absurd c
above_number (r ∷ rs) [] zero cut c h = absurd h
above_number (r ∷ rs) [] (suc v) cut c h = absurd h
above_number (r ∷ rs) (x ∷ xs) zero cut c h = let k = h.0.0 in omega (arith, ints, k)
above_number (r ∷ rs) (x ∷ xs) (suc v) cut c h = above_number rs xs v cut c h.1

-- how much the constraint rises from a vector to one with an end of the range in its place
risen : (l : Literal) (rs : List (ℤ × ℤ)) (v : ℕ) (r : ℤ × ℤ) (e slack : ℤ) (xs : List ℤ) → v < length rs → slice_get rs v ≡ Some r → r.0 ≤ℤ e → e ≤ℤ r.1 → IsSlack l rs slack → IsInRanges rs xs → pos 0 ≤ℤ constraint l xs
    → (get_or (coefficients_of l) v (pos 0) *ℤ (e -ℤ get_or xs v (pos 0))) ≤ℤ slack
risen l rs v r e slack xs w s low high h i p =
    let n = length-IsInRanges rs xs i in
    let k = sum_set (coefficients_of l) xs v e (omega (arith, n, w)) in
    let m = h (set xs v e) (set_in rs xs v r e s low high i) in
    omega (arith, ints, k, m, p)

times_le : (a u v : ℤ) → pos 0 ≤ℤ a → u ≤ℤ v → (a *ℤ u) ≤ℤ (a *ℤ v)
times_le (pos n) u v h k = mul_le_positive n u v k
times_le (negsuc n) u v h k = absurd (omega (arith, ints, h))

-- a turned factor and a turned difference
turned : (a u v : ℤ) → (pos 0 -ℤ a) *ℤ (u -ℤ v) ≡ a *ℤ (v -ℤ u)
turned a u v =
    let z : pos 0 -ℤ a ≡ neg_ℤ a = omega (arith, ints) in
    let y = ap (λ t. t *ℤ (u -ℤ v)) z in
    let p = neg_product a (u -ℤ v) in
    let q = product_neg a (u -ℤ v) in
    let e : neg_ℤ (u -ℤ v) ≡ v -ℤ u = omega (arith, ints) in
    let f = ap (λ t. a *ℤ t) e in
    omega (arith, ints, p, q, f, y)

pub IsShrunk-above : (l : Literal) (rs : List (ℤ × ℤ)) (v : ℕ) (r : ℤ × ℤ) (a at slack : ℤ) → v < length rs → slice_get rs v ≡ Some r → IsCut rs v at → r.0 ≤ℤ r.1 → get_or (coefficients_of l) v (pos 0) ≡ a → pos 0 ≤ℤ a → IsSlack l rs slack → slack <ℤ (a *ℤ (r.1 -ℤ at))
    → IsShrunk l rs (above rs v at)
IsShrunk-above l rs v r a at slack w s c o e h k g = record {
  within = above_within rs v at c;
  keeps = λ x i p. elim (split_in rs v at x i) [
    | inl b ↦
        let n = below_number rs x v at c b in
        let t = times_le a (r.1 -ℤ at) (r.1 -ℤ get_or x v (pos 0)) h (omega (arith, ints, n)) in
        let q = risen l rs v r r.1 slack x w s o (omega (arith, ints)) k i p in
        let f = ap (λ t. t *ℤ (r.1 -ℤ get_or x v (pos 0))) e in
        absurd (omega (arith, ints, g, t, q, f))
    | inr b ↦ b
  ];
}

pub IsShrunk-below : (l : Literal) (rs : List (ℤ × ℤ)) (v : ℕ) (r : ℤ × ℤ) (a at slack : ℤ) → v < length rs → slice_get rs v ≡ Some r → IsCut rs v at → r.0 ≤ℤ r.1 → get_or (coefficients_of l) v (pos 0) ≡ a → pos 0 ≤ℤ (pos 0 -ℤ a) → IsSlack l rs slack → slack <ℤ ((pos 0 -ℤ a) *ℤ ((at +ℤ pos 1) -ℤ r.0))
    → IsShrunk l rs (below rs v at)
IsShrunk-below l rs v r a at slack w s c o e h k g = record {
  within = below_within rs v at c;
  keeps = λ x i p. elim (split_in rs v at x i) [
    | inl b ↦ b
    | inr b ↦
        let y = get_or x v (pos 0) in
        let n = above_number rs x v at c b in
        let t = times_le (pos 0 -ℤ a) ((at +ℤ pos 1) -ℤ r.0) (y -ℤ r.0) h (omega (arith, ints, n)) in
        let q = risen l rs v r r.0 slack x w s (omega (arith, ints)) o k i p in
        let f = ap (λ t. t *ℤ (r.0 -ℤ y)) e in
        let m = turned a y r.0 in
        absurd (omega (arith, ints, g, t, q, f, m))
  ];
}
