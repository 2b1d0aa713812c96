-- How parts of a box are tightened.
use Rattle.std.proofs.Common.{◌≡◌, ℕ, zero, suc, ◌-◌, ℤ, List, [], ◌∷◌, length, refl, arith, inl, inr, ap, subst}
use Rattle.std.specs.Prelude.{Option, None, Some, MatchOption}
use Rattle.std.proofs.lemmas.List.Elements.{recursion_from_All}
use Rattle.std.proofs.lemmas.Int.{ints}
use Rattle.lin_form.specs.Range.{IsInRanges}
use Rattle.lin_form.specs.declared.literal.Literal.{Literal}
use Rattle.linear_refuter.specs.Cut.{IsCut, below, above}
use Rattle.lin_form.specs.Atom.{AreAsSaid}
use Rattle.linear_refuter.specs.Sum.{IsShaped, IsRefutingSum}
use Rattle.linear_refuter.specs.Refutation.{leaf}
use Rattle.linear_refuter.specs.inside.Halving.{HasBits}
use Rattle.linear_refuter.specs.TightPart.{IsFlat, lows, IsWithin, IsTightened}
use Rattle.linear_refuter.specs.Answer.{HasNone}
use Rattle.linear_refuter.specs.declared.tree.Weight.{Weight}
use Rattle.linear_refuter.proofs.Cuts.{split_in}
use Rattle.linear_refuter.proofs.Answers.{flat_lows}
use Rattle.linear_refuter.proofs.Soundness.{refuted_none}

pub within_itself : (rs : List (ℤ × ℤ)) → IsWithin rs rs
within_itself [] = tt
within_itself (r ∷ rs) = (omega (arith, ints), omega (arith, ints), within_itself rs)

pub within_then : (rs ss ts : List (ℤ × ℤ)) → IsWithin rs ss → IsWithin ss ts → IsWithin rs ts
within_then [] [] [] h k = tt
within_then [] [] (t ∷ ts) h k = absurd k
within_then [] (s ∷ ss) ts h k = absurd h
within_then (r ∷ rs) [] ts h k = absurd h
within_then (r ∷ rs) (s ∷ ss) [] h k = absurd k
within_then (r ∷ rs) (s ∷ ss) (t ∷ ts) h k = (omega (arith, ints, h.0, k.0), omega (arith, ints, h.1, k.1), within_then rs ss ts h.2 k.2)

pub within_width : (rs ss : List (ℤ × ℤ)) → IsWithin rs ss → length rs ≡ length ss
within_width [] [] h = refl
within_width [] (s ∷ ss) h = absurd h
within_width (r ∷ rs) [] h = absurd h
within_width (r ∷ rs) (s ∷ ss) h = ap (λ n. suc n) (within_width rs ss h.2)

pub within_in : (rs ss : List (ℤ × ℤ)) (xs : List ℤ) → IsWithin rs ss → IsInRanges rs xs → IsInRanges ss xs
within_in [] [] xs h i = i
within_in [] (s ∷ ss) xs h i = absurd h
within_in (r ∷ rs) [] xs h i = absurd h
within_in (r ∷ rs) (s ∷ ss) [] h i = absurd i
within_in (r ∷ rs) (s ∷ ss) (x ∷ xs) h i = ((omega (arith, ints, h.0, i.0.0), omega (arith, ints, h.1, i.0.1)), within_in rs ss xs h.2 i.1)

pub bits_within : (rs ss : List (ℤ × ℤ)) (n : ℕ) → IsWithin rs ss → HasBits ss n → HasBits rs n
bits_within [] [] n h b = tt
bits_within [] (s ∷ ss) n h b = absurd h
bits_within (r ∷ rs) [] n h b = absurd h
bits_within (r ∷ rs) (s ∷ ss) n h b = (b.0, omega (arith, ints, h.0, h.1, b.1), b.2, bits_within rs ss (n - b.0) h.2 b.3)

pub below_within : (rs : List (ℤ × ℤ)) (v : ℕ) (cut : ℤ) → IsCut rs v cut → IsWithin (below rs v cut) rs
below_within [] v cut c = absurd c
below_within (r ∷ rs) zero cut c = (omega (arith, ints), omega (arith, ints, c.1), within_itself rs)
below_within (r ∷ rs) (suc v) cut c = (omega (arith, ints), omega (arith, ints), below_within rs v cut c)

pub above_within : (rs : List (ℤ × ℤ)) (v : ℕ) (cut : ℤ) → IsCut rs v cut → IsWithin (above rs v cut) rs
above_within [] v cut c = absurd c
above_within (r ∷ rs) zero cut c = (omega (arith, ints, c.0), omega (arith, ints), within_itself rs)
above_within (r ∷ rs) (suc v) cut c = (omega (arith, ints), omega (arith, ints), above_within rs v cut c)

pub IsTightened-same : (ls : List Literal) (rs : List (ℤ × ℤ)) → IsTightened ls rs rs
IsTightened-same ls rs = record { within = within_itself rs; keeps = λ x h k. h }

pub IsTightened-then : (ls : List Literal) (rs ss ts : List (ℤ × ℤ)) → IsTightened ls rs ss → IsTightened ls ss ts → IsTightened ls rs ts
IsTightened-then ls rs ss ts h k = record { within = within_then ts ss rs k.within h.within; keeps = λ x i s. k.keeps x (h.keeps x i s) s }

pub HasNone-from : (ls : List Literal) (rs ss : List (ℤ × ℤ)) → IsTightened ls rs ss → HasNone ls ss → HasNone ls rs
HasNone-from ls rs ss t n = λ x i s. n x (t.keeps x i s) s

-- a sum that is below 0 leaves no vector
pub HasNone-sum : (ls : List Literal) (rs : List (ℤ × ℤ)) (ws : List Weight) → IsRefutingSum ls rs ws → HasNone ls rs
HasNone-sum ls rs ws h = λ x i s. refuted_none ls rs (leaf ws) x h i s

-- so the other side of a cut has all
pub IsTightened-above : (ls : List Literal) (rs : List (ℤ × ℤ)) (v : ℕ) (cut : ℤ) → IsCut rs v cut → HasNone ls (below rs v cut) → IsTightened ls rs (above rs v cut)
IsTightened-above ls rs v cut c n = record {
  within = above_within rs v cut c;
  keeps = λ x i s. elim (split_in rs v cut x i) [ inl b ↦ absurd (n x b s) | inr a ↦ a ];
}

pub IsTightened-below : (ls : List Literal) (rs : List (ℤ × ℤ)) (v : ℕ) (cut : ℤ) → IsCut rs v cut → HasNone ls (above rs v cut) → IsTightened ls rs (below rs v cut)
IsTightened-below ls rs v cut c n = record {
  within = below_within rs v cut c;
  keeps = λ x i s. elim (split_in rs v cut x i) [ inl b ↦ b | inr a ↦ absurd (n x a s) ];
}

-- where neither part at a cut has a vector, the box has none
pub HasNone-parts : (ls : List Literal) (rs : List (ℤ × ℤ)) (v : ℕ) (cut : ℤ) → HasNone ls (below rs v cut) → HasNone ls (above rs v cut) → HasNone ls rs
HasNone-parts ls rs v cut l h = λ x i s. elim (split_in rs v cut x i) [ inl b ↦ l x b s | inr a ↦ h x a s ]

pub IsShaped-tight : (ls : List Literal) (rs ss : List (ℤ × ℤ)) → IsShaped ls rs → IsTightened ls rs ss → IsShaped ls ss
IsShaped-tight ls rs ss h t = let e = within_width ss rs t.within in rw e h

-- an answer for one part, from that for another
pub match_option_from : (P Q : Type 0) (R S : List ℤ → Type 0) (o : Option (List ℤ)) → (P → Q) → ((x : List ℤ) → R x → S x) → MatchOption o P R → MatchOption o Q S
match_option_from P Q R S None f g h = f h
match_option_from P Q R S (Some x) f g h = g x h

-- where the least vector of a box with one vector is none, it has none
pub HasNone-flat : (ls : List Literal) (rs : List (ℤ × ℤ)) → IsFlat rs → (AreAsSaid ls (lows rs) → ⊥) → HasNone ls rs
HasNone-flat ls rs flat n = λ x i s.
    let e = flat_lows rs x (recursion_from_All _ rs flat) i in
    let P : List ℤ → Type 0 = λ t. AreAsSaid ls t in
    n (subst P e s)
