-- Two lists of literals, by an atom that is false or true on each vector.
use Rattle.std.proofs.Common.{◌≡◌, ℤ, Bool, true, false, List, [], ◌∷◌, ◌++◌, length, refl, inl, inr}
use Rattle.std.specs.Prelude.{◌⊎◌, Some}
use Rattle.std.proofs.lemmas.List.Elements.{All-pop, All-push}
use Rattle.lin_form.specs.Atom.{AreAsSaid, IsAsSaid, atom_truth}
use Rattle.lin_form.specs.declared.atom.Atom.{Atom}
use Rattle.lin_form.specs.declared.literal.Literal.{Literal}
use Rattle.linear_refuter.specs.Answer.{HasNone}
use Rattle.linear_refuter.specs.Sum.{IsShaped}
use Rattle.linear_refuter.specs.inside.Parting.{AreHalves}
use Rattle.linear_refuter.specs.declared.form_cut.Halves.{Halves}

said_pop : (ls : List Literal) (l : Literal) (x : List ℤ) → AreAsSaid (ls ++ l ∷ []) x → AreAsSaid ls x
said_pop ls l x s = (All-pop (λ m. IsAsSaid m x) (ls ++ l ∷ []) ls (Some l) refl s).0

shaped_push : (ls : List Literal) (l : Literal) (rs : List (ℤ × ℤ)) → IsShaped ls rs → length l.atom.coefficients ≡ length rs → IsShaped (ls ++ l ∷ []) rs
shaped_push ls l rs s w = All-push (λ (m : Literal). length m.atom.coefficients ≡ length rs) ls l s w

either_of : (ls : List Literal) (a : Atom) (x : List ℤ) (b : Bool) → atom_truth a x ≡ b → AreAsSaid ls x
    → AreAsSaid (ls ++ record { atom = a; holds = false } ∷ []) x ⊎ AreAsSaid (ls ++ record { atom = a; holds = true } ∷ []) x
either_of ls a x false e s = let l : Literal = record { atom = a; holds = false } in inl (All-push (λ m. IsAsSaid m x) ls l s e)
either_of ls a x true e s = let l : Literal = record { atom = a; holds = true } in inr (All-push (λ m. IsAsSaid m x) ls l s e)

pub AreHalves-from : (ls : List Literal) (rs : List (ℤ × ℤ)) (a : Atom) (h : Halves) → IsShaped ls rs → length a.coefficients ≡ length rs
    → h.low.items ≡ ls ++ record { atom = a; holds = false } ∷ [] → h.high.items ≡ ls ++ record { atom = a; holds = true } ∷ [] → AreHalves ls rs h
AreHalves-from ls rs a h s w e f =
    let low : Literal = record { atom = a; holds = false } in
    let high : Literal = record { atom = a; holds = true } in
    record {
      shaped_low = rw e (shaped_push ls low rs s w);
      shaped_high = rw f (shaped_push ls high rs s w);
      from_low = λ x g. said_pop ls low x (rw e at g);
      from_high = λ x g. said_pop ls high x (rw f at g);
      either = λ x g. rw (e, f) (either_of ls a x (atom_truth a x) refl g);
    }

pub HasNone-halves : (ls : List Literal) (rs : List (ℤ × ℤ)) (h : Halves) → AreHalves ls rs h → HasNone h.low.items rs → HasNone h.high.items rs → HasNone ls rs
HasNone-halves ls rs h s low high = λ x i g. elim (s.either x g) [ inl a ↦ low x i a | inr b ↦ high x i b ]
