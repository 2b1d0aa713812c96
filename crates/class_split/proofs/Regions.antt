-- Regions: cuts, literals that do not follow, and restrictions.
use Rattle.std.proofs.Common.{◌≡◌, ℕ, zero, suc, ◌+◌, ◌<◌, ◌≤◌, ℤ, pos, ◌+ℤ◌, ◌-ℤ◌, ◌*ℤ◌, ◌≤ℤ◌, ◌<ℤ◌, neg_ℤ, Bool, true, false, List, [], ◌∷◌, ◌++◌, length, get_or, refl, ap, sym, arith, length-append, below_more, subst}
use Rattle.std.specs.Prelude.{int_le, MatchBool, Some}
use Rattle.std.proofs.lemmas.Int.{ints}
use Rattle.std.proofs.lemmas.List.Elements.{recursion_from_All, All-from_recursion, All-pop, All-push}
use Rattle.lin_form.specs.Form.{sum_of_products}
use Rattle.lin_form.specs.Atom.{atom_truth, AreAsSaid, IsAsSaid}
use Rattle.lin_form.specs.Range.{IsInRanges}
use Rattle.lin_form.specs.declared.atom.Atom.{Atom}
use Rattle.lin_form.specs.declared.literal.Literal.{Literal}
use Rattle.linear_refuter.specs.Cut.{IsCut, above, below}
use Rattle.linear_refuter.specs.Sum.{IsShaped}
use Rattle.linear_refuter.proofs.CallerLemmas.{below_in, above_in}
use Rattle.witness_pick.proofs.Limits.{in_below}
use Rattle.class_split.specs.inside.Region.{IsCutOf, IsReducedTo, IsRestricted}
use Rattle.class_split.specs.declared.region.Region.{Region}

-- all coefficients are 0
zero_sum : (cs xs : List ℤ) → ((k : ℕ) → k < length cs → get_or cs k (pos 0) ≡ pos 0) → sum_of_products cs xs ≡ pos 0
zero_sum [] xs h = refl
zero_sum (a ∷ cs) [] h = refl
zero_sum (a ∷ cs) (x ∷ xs) h =
    let z : a ≡ pos 0 = h zero (omega arith) in
    let e = zero_sum cs xs (λ k l. h (suc k) (omega (arith, l))) in
    let p : a *ℤ x ≡ pos 0 *ℤ x = ap (λ t. t *ℤ x) z in
    omega (arith, ints, e, p)

-- the coefficient of one variable is 1, and every other is 0
pub single_sum : (cs xs : List ℤ) (v : ℕ) → length cs ≡ length xs → ((k : ℕ) → k < length cs → k ≡ v → get_or cs k (pos 0) ≡ pos 1) → ((k : ℕ) → k < length cs → (k ≡ v → ⊥) → get_or cs k (pos 0) ≡ pos 0) → sum_of_products cs xs ≡ get_or xs v (pos 0)
single_sum [] [] v e one none = refl
single_sum [] (x ∷ xs) v e one none = absurd (omega (arith, e))
single_sum (a ∷ cs) [] v e one none = absurd (omega (arith, e))
single_sum (a ∷ cs) (x ∷ xs) zero e one none =
    let z : a ≡ pos 1 = one zero (omega arith) refl in
    let r = zero_sum cs xs (λ k l. none (suc k) (omega (arith, l)) (λ q. absurd (omega (arith, q)))) in
    let p : a *ℤ x ≡ pos 1 *ℤ x = ap (λ t. t *ℤ x) z in
    omega (arith, ints, r, p)
single_sum (a ∷ cs) (x ∷ xs) (suc v) e one none =
    let z : a ≡ pos 0 = none zero (omega arith) (λ q. absurd (omega (arith, q))) in
    let r = single_sum cs xs v (omega (arith, e)) (λ k l q. one (suc k) (omega (arith, l)) (omega (arith, q))) (λ k l q. none (suc k) (omega (arith, l)) (λ t. q (omega (arith, t)))) in
    let p : a *ℤ x ≡ pos 0 *ℤ x = ap (λ t. t *ℤ x) z in
    omega (arith, ints, r, p)

-- a number of a vector below a cut, and of one above it
number_below : (rs : List (ℤ × ℤ)) (v : ℕ) (cut : ℤ) (xs : List ℤ) → IsCut rs v cut → IsInRanges (below rs v cut) xs → get_or xs v (pos 0) ≤ℤ cut
number_below [] v cut xs c h = absurd c
number_below (r ∷ rs) zero cut [] c h = absurd h
number_below (r ∷ rs) (suc v) cut [] c h = absurd h
number_below (r ∷ rs) zero cut (x ∷ xs) c h = h.0.1
number_below (r ∷ rs) (suc v) cut (x ∷ xs) c h = number_below rs v cut xs c h.1

number_above : (rs : List (ℤ × ℤ)) (v : ℕ) (cut : ℤ) (xs : List ℤ) → IsCut rs v cut → IsInRanges (above rs v cut) xs → cut <ℤ get_or xs v (pos 0)
number_above [] v cut xs c h = absurd c
number_above (r ∷ rs) zero cut [] c h = absurd h
number_above (r ∷ rs) (suc v) cut [] c h = absurd h
number_above (r ∷ rs) zero cut (x ∷ xs) c h = omega (arith, ints, h.0.0)
number_above (r ∷ rs) (suc v) cut (x ∷ xs) c h = number_above rs v cut xs c h.1

in_above : (rs : List (ℤ × ℤ)) (v : ℕ) (cut : ℤ) (xs : List ℤ) → IsInRanges rs xs → cut <ℤ get_or xs v (pos 0) → IsInRanges (above rs v cut) xs
in_above [] v cut xs i h = i
in_above (r ∷ rs) zero cut [] i h = absurd i
in_above (r ∷ rs) (suc v) cut [] i h = absurd i
in_above (r ∷ rs) zero cut (x ∷ xs) i h = ((omega (arith, ints, h), i.0.1), i.1)
in_above (r ∷ rs) (suc v) cut (x ∷ xs) i h = (i.0, in_above rs v cut xs i.1 h)

holds_above : (s x b at : ℤ) → s ≡ x → at ≡ (neg_ℤ b -ℤ pos 1) → at <ℤ x → int_le (pos 0) (s +ℤ b) ≡ true
holds_above s x b at e f h = grind (arith, ints)

fails_below : (s x b at : ℤ) → s ≡ x → at ≡ (neg_ℤ b -ℤ pos 1) → x ≤ℤ at → int_le (pos 0) (s +ℤ b) ≡ false
fails_below s x b at e f h = grind (arith, ints)

above_holds : (s x b at : ℤ) → s ≡ x → at ≡ (neg_ℤ b -ℤ pos 1) → int_le (pos 0) (s +ℤ b) ≡ true → at <ℤ x
above_holds s x b at e f h = grind (arith, ints)

below_fails : (s x b at : ℤ) → s ≡ x → at ≡ (neg_ℤ b -ℤ pos 1) → int_le (pos 0) (s +ℤ b) ≡ false → x ≤ℤ at
below_fails s x b at e f h = grind (arith, ints)

-- the part on the side of a cut, of which the vectors are those with this truth of the atom
pub record IsCutPart (part : List (ℤ × ℤ)) (atom : Atom) (holds : Bool) (next : List (ℤ × ℤ)) : Type 0 where
  pub from : (x : List ℤ) → IsInRanges next x → IsInRanges part x × (atom_truth atom x ≡ holds)
  pub into : (x : List ℤ) → IsInRanges part x → atom_truth atom x ≡ holds → IsInRanges next x

pub IsCutPart-above : (part : List (ℤ × ℤ)) (atom : Atom) (v : ℕ) (at : ℤ) → IsCutOf part atom v at → IsCutPart part atom true (above part v at)
IsCutPart-above part atom v at c = record {
  from = λ x h.
      let i = above_in part v at x c.cut h in
      (i, holds_above (sum_of_products atom.coefficients x) (get_or x v (pos 0)) atom.constant at (c.single x i) c.last (number_above part v at x c.cut h));
  into = λ x i t. in_above part v at x i (above_holds (sum_of_products atom.coefficients x) (get_or x v (pos 0)) atom.constant at (c.single x i) c.last t);
}

pub IsCutPart-below : (part : List (ℤ × ℤ)) (atom : Atom) (v : ℕ) (at : ℤ) → IsCutOf part atom v at → IsCutPart part atom false (below part v at)
IsCutPart-below part atom v at c = record {
  from = λ x h.
      let i = below_in part v at x c.cut h in
      (i, fails_below (sum_of_products atom.coefficients x) (get_or x v (pos 0)) atom.constant at (c.single x i) c.last (number_below part v at x c.cut h));
  into = λ x i t. in_below part v at x i (below_fails (sum_of_products atom.coefficients x) (get_or x v (pos 0)) atom.constant at (c.single x i) c.last t);
}

-- literals kept so far
pub record IsReducedSoFar (part : List (ℤ × ℤ)) (literals first : List Literal) (i : ℕ) (kept : List Literal) : Type 0 where
  pub from_first : (x : List ℤ) → AreAsSaid kept x → AreAsSaid first x
  pub from_all : (x : List ℤ) → IsInRanges part x → AreAsSaid kept x → (k : ℕ) (d : Literal) → k < i → IsAsSaid (get_or literals k d) x
  pub into : (x : List ℤ) → AreAsSaid first x → AreAsSaid literals x → AreAsSaid kept x
  pub few : length kept ≤ length first + i
  pub shaped : IsShaped first part → IsShaped kept part

pub IsReducedSoFar-start : (part : List (ℤ × ℤ)) (literals first : List Literal) → IsReducedSoFar part literals first 0 first
IsReducedSoFar-start part literals first = record {
  from_first = λ x h. h;
  from_all = λ x i h k d l. absurd (omega (arith, l));
  into = λ x h g. h;
  few = omega arith;
  shaped = λ h. h;
}

pub IsReducedSoFar-all : (part : List (ℤ × ℤ)) (literals first kept : List Literal) (i : ℕ) → length literals ≤ i → i ≤ length literals → IsReducedSoFar part literals first i kept → IsReducedTo part literals first kept
IsReducedSoFar-all part literals first kept i h g r = record {
  from_first = r.from_first;
  from_all = λ x j s k d l. r.from_all x j s k d (omega (arith, l));
  into = r.into;
  few = let f = r.few in omega arith;
  shaped = r.shaped;
}

-- one that does not follow is kept
pub IsReducedSoFar-push : (part : List (ℤ × ℤ)) (literals first kept : List Literal) (i : ℕ) (l : Literal) → i < length literals → ((d : Literal) → get_or literals i d ≡ l) → IsShaped literals part → IsReducedSoFar part literals first i kept → IsReducedSoFar part literals first (i + 1) (kept ++ l ∷ [])
IsReducedSoFar-push part literals first kept i l h at shaped r = record {
  from_first = λ x s. r.from_first x (All-pop (λ m. IsAsSaid m x) (kept ++ l ∷ []) kept (Some l) refl s).0;
  from_all = λ x j s.
      let p = All-pop (λ m. IsAsSaid m x) (kept ++ l ∷ []) kept (Some l) refl s in
      λ k d. below_more (λ n. IsAsSaid (get_or literals n d) x) i (λ n m. r.from_all x j p.0 n d m) (let P : Literal → Type 0 = λ m. IsAsSaid m x in subst P (sym (at d)) p.1) k;
  into = λ x s g. All-push (λ m. IsAsSaid m x) kept l (r.into x s g) (let P : Literal → Type 0 = λ m. IsAsSaid m x in subst P (at l) (g i l h));
  few = let f = r.few in simp length-append (omega arith);
  shaped = λ s. All-push (λ (m : Literal). length m.atom.coefficients ≡ length part) kept l (r.shaped s) (let P : Literal → Type 0 = λ m. length m.atom.coefficients ≡ length part in subst P (at l) (shaped i l h));
}

-- one that follows is not
pub IsReducedSoFar-skip : (part : List (ℤ × ℤ)) (literals first kept : List Literal) (i : ℕ) (l : Literal) → ((d : Literal) → get_or literals i d ≡ l) → ((x : List ℤ) → IsInRanges part x → AreAsSaid kept x → IsAsSaid l x) → IsReducedSoFar part literals first i kept → IsReducedSoFar part literals first (i + 1) kept
IsReducedSoFar-skip part literals first kept i l at f r = record {
  from_first = r.from_first;
  from_all = λ x j s k d. below_more (λ n. IsAsSaid (get_or literals n d) x) i (λ n m. r.from_all x j s n d m) (let P : Literal → Type 0 = λ m. IsAsSaid m x in subst P (sym (at d)) (f x j s)) k;
  into = r.into;
  few = let g = r.few in omega arith;
  shaped = r.shaped;
}

-- a region cut by an atom of one variable
pub IsRestricted-cut : (region next : Region) (atom : Atom) (holds : Bool) → IsCutPart region.part atom holds next.part → length next.part ≡ length region.part → IsShaped region.kept.items region.part → IsReducedTo next.part region.kept.items [] next.kept.items → IsRestricted region atom holds next
IsRestricted-cut region next atom holds cut width shaped r = record {
  width = width;
  shaped = r.shaped (All-from_recursion _ [] tt);
  few = let f = r.few in omega arith;
  from = λ x h. let c = cut.from x h.inside in (record { inside = c.0; said = r.from_all x h.inside h.said }, c.1);
  into = λ x h t. record { inside = cut.into x h.inside t; said = r.into x (All-from_recursion _ [] tt) h.said };
}

-- a region with one more literal
pub IsRestricted-literal : (region next : Region) (literal : Literal) → next.part ≡ region.part → length literal.atom.coefficients ≡ length region.part → IsReducedTo region.part region.kept.items (literal ∷ []) next.kept.items → IsRestricted region literal.atom literal.holds next
IsRestricted-literal region next literal same width r = record {
  width = ap length same;
  shaped = rw same (r.shaped (All-from_recursion (λ (m : Literal). length m.atom.coefficients ≡ length region.part) (literal ∷ []) (width, tt)));
  few = let f = r.few in omega arith;
  from = λ x h.
      let i = rw same at h.inside in
      (record { inside = i; said = r.from_all x i h.said }, (recursion_from_All (λ m. IsAsSaid m x) (literal ∷ []) (r.from_first x h.said)).0);
  into = λ x h t. record {
    inside = rw same h.inside;
    said = r.into x (All-from_recursion (λ m. IsAsSaid m x) (literal ∷ []) (t, tt)) h.said;
  };
}

pub IsCutPart-side : (part next : List (ℤ × ℤ)) (atom : Atom) (v : ℕ) (at : ℤ) (holds : Bool) → IsCutOf part atom v at → MatchBool holds (next ≡ above part v at) (next ≡ below part v at) → IsCutPart part atom holds next
IsCutPart-side part next atom v at true c e = rw e (IsCutPart-above part atom v at c)
IsCutPart-side part next atom v at false c e = rw e (IsCutPart-below part atom v at c)
