-- How the part of a box that has the least vector is narrowed.
use Rattle.std.proofs.Common.{◌≡◌, ℕ, zero, suc, ◌<◌, ◌≤◌, ℤ, pos, ◌≤ℤ◌, ◌<ℤ◌, List, [], ◌∷◌, length, get_or, refl, ap, subst, inl, inr, arith}
use Rattle.std.specs.Prelude.{Some, slice_get}
use Rattle.std.proofs.lemmas.Int.{ints}
use Rattle.std.proofs.lemmas.List.Elements.{recursion_from_All}
use Rattle.lin_form.specs.Range.{IsInRanges}
use Rattle.lin_form.specs.declared.literal.Literal.{Literal}
use Rattle.linear_refuter.specs.Cut.{IsCut, below, above}
use Rattle.lin_form.specs.Atom.{AreAsSaid}
use Rattle.linear_refuter.specs.TightPart.{IsFlat, lows, IsWithin, IsTightened}
use Rattle.linear_refuter.specs.Answer.{HasNone}
use Rattle.linear_refuter.proofs.CallerLemmas.{split_in, below_in, above_in, flat_lows, within_in}
use Rattle.input_classes.specs.Order.{IsAtMost}
use Rattle.witness_pick.specs.inside.Narrowing.{IsFirstWide, IsNarrowed, room}
use Rattle.witness_pick.specs.Least.{IsLeast}

pub at_most_itself : (xs : List ℤ) → IsAtMost xs xs
at_most_itself [] = tt
at_most_itself (x ∷ xs) = inr (refl, at_most_itself xs)

pub IsNarrowed-start : (ls : List Literal) (box : List (ℤ × ℤ)) (xs : List ℤ) → IsInRanges box xs → AreAsSaid ls xs → IsNarrowed ls box box xs
IsNarrowed-start ls box xs i s = record { part = λ zs h. h; inside = i; said = s; covers = λ ys h k. inl h }

-- a vector below a cut of the first wide range comes before one above it
below_first : (rs : List (ℤ × ℤ)) (v : ℕ) (cut : ℤ) (zs ys : List ℤ) → IsFirstWide rs v → IsInRanges (below rs v cut) zs → IsInRanges (above rs v cut) ys → IsAtMost zs ys
below_first [] v cut zs ys f i j = absurd f
below_first (r ∷ rs) zero cut [] ys f i j = absurd i
below_first (r ∷ rs) (suc v) cut [] ys f i j = absurd i
below_first (r ∷ rs) zero cut (z ∷ zs) [] f i j = absurd j
below_first (r ∷ rs) (suc v) cut (z ∷ zs) [] f i j = absurd j
below_first (r ∷ rs) zero cut (z ∷ zs) (y ∷ ys) f i j = inl (omega (arith, ints, i.0.1, j.0.0))
below_first (r ∷ rs) (suc v) cut (z ∷ zs) (y ∷ ys) f i j = inr (omega (arith, ints, f.0, i.0.0, i.0.1, j.0.0, j.0.1), below_first rs v cut zs ys f.1 i.1 j.1)

-- a vector below the cut makes the part below it enough
pub IsNarrowed-below : (ls : List Literal) (box limits : List (ℤ × ℤ)) (v : ℕ) (cut : ℤ) (xs found : List ℤ) → IsCut limits v cut → IsFirstWide limits v → IsNarrowed ls box limits xs → IsInRanges (below limits v cut) found → AreAsSaid ls found → IsNarrowed ls box (below limits v cut) found
IsNarrowed-below ls box limits v cut xs found c f n i s = record {
  part = λ zs h. n.part zs (below_in limits v cut zs c h);
  inside = i;
  said = s;
  covers = λ ys h k. elim (n.covers ys h k) [
    | inl l ↦ elim (split_in limits v cut ys l) [ inl b ↦ inl b | inr a ↦ inr (λ zs j. below_first limits v cut zs ys f j a) ]
    | inr l ↦ inr (λ zs j. l zs (below_in limits v cut zs c j))
  ];
}

-- a part below the cut with no vector is left out
pub IsNarrowed-above : (ls : List Literal) (box limits : List (ℤ × ℤ)) (v : ℕ) (cut : ℤ) (xs : List ℤ) → IsCut limits v cut → HasNone ls (below limits v cut) → IsNarrowed ls box limits xs → IsNarrowed ls box (above limits v cut) xs
IsNarrowed-above ls box limits v cut xs c r n = record {
  part = λ zs h. n.part zs (above_in limits v cut zs c h);
  inside = elim (split_in limits v cut xs n.inside) [ inl b ↦ absurd (r xs b n.said) | inr a ↦ a ];
  said = n.said;
  covers = λ ys h k. elim (n.covers ys h k) [
    | inl l ↦ elim (split_in limits v cut ys l) [ inl b ↦ absurd (r ys b k) | inr a ↦ inl a ]
    | inr l ↦ inr (λ zs j. l zs (above_in limits v cut zs c j))
  ];
}

-- a tightened part is enough
pub IsNarrowed-tight : (ls : List Literal) (box limits next : List (ℤ × ℤ)) (xs : List ℤ) → IsTightened ls limits next → IsNarrowed ls box limits xs → IsNarrowed ls box next xs
IsNarrowed-tight ls box limits next xs t n = record {
  part = λ zs h. n.part zs (within_in next limits zs t.within h);
  inside = t.keeps xs n.inside n.said;
  said = n.said;
  covers = λ ys h k. elim (n.covers ys h k) [
    | inl l ↦ inl (t.keeps ys l k)
    | inr l ↦ inr (λ zs j. l zs (within_in next limits zs t.within j))
  ];
}

pub room_within : (rs ss : List (ℤ × ℤ)) (xs : List ℤ) → IsWithin rs ss → IsInRanges rs xs → room rs ≤ room ss
room_within [] [] xs h i = omega arith
room_within [] (s ∷ ss) xs h i = absurd h
room_within (r ∷ rs) [] xs h i = absurd h
room_within (r ∷ rs) (s ∷ ss) [] h i = absurd i
room_within (r ∷ rs) (s ∷ ss) (x ∷ xs) h i = let k = room_within rs ss xs h.2 i.1 in omega (arith, ints, h.0, h.1, i.0.0, i.0.1)

pub lows_at : (rs : List (ℤ × ℤ)) (v : ℕ) (r : ℤ × ℤ) → slice_get rs v ≡ Some r → get_or (lows rs) v (pos 0) ≡ r.0
lows_at [] v r e = absurd cc
lows_at (s ∷ rs) zero r e = let q : s ≡ r = cc in ap (λ (t : ℤ × ℤ). t.0) q
lows_at (s ∷ rs) (suc v) r e = lows_at rs v r e

-- where every range has one number, the vector is the least
pub IsLeast-flat : (ls : List Literal) (box limits : List (ℤ × ℤ)) (xs : List ℤ) → IsFlat limits → IsNarrowed ls box limits xs → IsLeast ls box xs
IsLeast-flat ls box limits xs flat n = record {
  inside = n.part xs n.inside;
  said = n.said;
  least = λ ys h k. elim (n.covers ys h k) [
    | inl l ↦ (let e = flat_lows limits xs (recursion_from_All _ limits flat) n.inside in
        let f = flat_lows limits ys (recursion_from_All _ limits flat) l in
        let P : List ℤ → Type 0 = λ t. IsAtMost xs t in
        let same : xs ≡ ys = cc in
        subst P same (at_most_itself xs))
    | inr l ↦ l xs n.inside
  ];
}

pub room_below : (rs : List (ℤ × ℤ)) (v : ℕ) (cut : ℤ) → IsCut rs v cut → room (below rs v cut) < room rs
room_below [] v cut c = absurd c
room_below (r ∷ rs) zero cut c = omega (arith, ints, c.0, c.1)
room_below (r ∷ rs) (suc v) cut c = let k = room_below rs v cut c in omega arith

pub room_above : (rs : List (ℤ × ℤ)) (v : ℕ) (cut : ℤ) → IsCut rs v cut → room (above rs v cut) < room rs
room_above [] v cut c = absurd c
room_above (r ∷ rs) zero cut c = omega (arith, ints, c.0, c.1)
room_above (r ∷ rs) (suc v) cut c = let k = room_above rs v cut c in omega arith

pub IsFirstWide-at : (rs : List (ℤ × ℤ)) (v : ℕ) (r : ℤ × ℤ) → slice_get rs v ≡ Some r → r.0 <ℤ r.1 → ((k : ℕ) (d : ℤ × ℤ) → k < v → (get_or rs k d).1 ≤ℤ (get_or rs k d).0) → IsFirstWide rs v
IsFirstWide-at [] v r e h n = absurd cc
IsFirstWide-at (s ∷ rs) zero r e h n = let q : r ≡ s = cc in let P : ℤ × ℤ → Type 0 = λ t. t.0 <ℤ t.1 in subst P q h
IsFirstWide-at (s ∷ rs) (suc v) r e h n = (n zero s (omega arith), IsFirstWide-at rs v r e h (λ k d l. n (suc k) d (omega (arith, l))))

pub wide_at : (rs : List (ℤ × ℤ)) (v : ℕ) (r : ℤ × ℤ) → slice_get rs v ≡ Some r → IsFirstWide rs v → r.0 <ℤ r.1
wide_at [] v r e f = absurd f
wide_at (s ∷ rs) zero r e f = let q : s ≡ r = cc in let P : ℤ × ℤ → Type 0 = λ t. t.0 <ℤ t.1 in subst P q f
wide_at (s ∷ rs) (suc v) r e f = wide_at rs v r e f.1

pub wide_within : (rs : List (ℤ × ℤ)) (v : ℕ) → IsFirstWide rs v → v < length rs
wide_within [] v f = absurd f
wide_within (s ∷ rs) zero f = omega arith
wide_within (s ∷ rs) (suc v) f = let k = wide_within rs v f.1 in omega arith

-- the number of a vector at a place lies in the range there
pub number_in : (rs : List (ℤ × ℤ)) (xs : List ℤ) (v : ℕ) (r : ℤ × ℤ) → slice_get rs v ≡ Some r → IsInRanges rs xs → (r.0 ≤ℤ get_or xs v (pos 0)) × (get_or xs v (pos 0) ≤ℤ r.1)
number_in [] xs v r e i = absurd cc
number_in (s ∷ rs) [] v r e i = absurd i
number_in (s ∷ rs) (x ∷ xs) zero r e i = let q : s ≡ r = cc in let P : ℤ × ℤ → Type 0 = λ t. (t.0 ≤ℤ x) × (x ≤ℤ t.1) in subst P q i.0
number_in (s ∷ rs) (x ∷ xs) (suc v) r e i = number_in rs xs v r e i.1

-- a vector whose number is at most the cut lies below it
pub in_below : (rs : List (ℤ × ℤ)) (v : ℕ) (cut : ℤ) (xs : List ℤ) → IsInRanges rs xs → get_or xs v (pos 0) ≤ℤ cut → IsInRanges (below rs v cut) xs
in_below [] v cut xs i h = i
in_below (r ∷ rs) zero cut [] i h = absurd i
in_below (r ∷ rs) (suc v) cut [] i h = absurd i
in_below (r ∷ rs) zero cut (x ∷ xs) i h = ((i.0.0, h), i.1)
in_below (r ∷ rs) (suc v) cut (x ∷ xs) i h = (i.0, in_below rs v cut xs i.1 h)
