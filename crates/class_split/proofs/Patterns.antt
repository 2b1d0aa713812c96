-- Patterns, and the order in which they stand.
use Rattle.std.proofs.Common.{◌≡◌, ℕ, zero, suc, ◌<◌, ◌≤◌, ◌⊎◌, ℤ, Bool, true, false, List, [], ◌∷◌, ◌++◌, length, map, get_or, refl, ap, sym, ◌∙◌, arith, inl, inr, subst}
use Rattle.std.specs.Prelude.{Some, slice_get}
use Rattle.std.specs.List.{All, AllByRecursion}
use Rattle.std.proofs.lemmas.List.Elements.{recursion_from_All, All-append}
use Rattle.lin_form.specs.Atom.{atom_truth}
use Rattle.input_classes.specs.Partition.{pattern_of}
use Rattle.input_classes.specs.Order.{IsPatternBefore}
use Rattle.input_classes.specs.Order.{AreAscending}
use Rattle.lin_form.specs.declared.atom.Atom.{Atom}
use Rattle.class_split.specs.inside.Node.{SameUpTo}

pub same_pattern : (atoms : List Atom) (x y : List ℤ) → SameUpTo (length atoms) atoms x y → pattern_of atoms x ≡ pattern_of atoms y
same_pattern [] x y h = refl
same_pattern (a ∷ atoms) x y h =
    let e : atom_truth a x ≡ atom_truth a y = h zero a (omega arith) in
    let r = same_pattern atoms x y (λ k d l. h (suc k) d (omega (arith, l))) in
    cc

pub pattern_same : (atoms : List Atom) (x y : List ℤ) (n : ℕ) → n ≤ length atoms → pattern_of atoms x ≡ pattern_of atoms y → SameUpTo n atoms x y
pattern_same [] x y n l e k d h = absurd (omega (arith, l, h))
pattern_same (a ∷ atoms) x y n l e zero d h = cc
pattern_same (a ∷ atoms) x y n l e (suc k) d h = let r : pattern_of atoms x ≡ pattern_of atoms y = cc in pattern_same atoms x y (length atoms) (omega arith) r k d (omega (arith, l, h))

pub SameUpTo-sym : (n : ℕ) (atoms : List Atom) (x y : List ℤ) → SameUpTo n atoms x y → SameUpTo n atoms y x
SameUpTo-sym n atoms x y h k d l = sym (h k d l)

pub SameUpTo-trans : (n : ℕ) (atoms : List Atom) (x y z : List ℤ) → SameUpTo n atoms x y → SameUpTo n atoms y z → SameUpTo n atoms x z
SameUpTo-trans n atoms x y z h g k d l = h k d l ∙ g k d l

pub false_or_true : (b : Bool) → (b ≡ false) ⊎ (b ≡ true)
false_or_true false = inl refl
false_or_true true = inr refl

-- the truth of the n-th atom, whichever it is
pub truth_at : (atoms : List Atom) (n : ℕ) (x : List ℤ) → n < length atoms → ((d : Atom) → atom_truth (get_or atoms n d) x ≡ false) ⊎ ((d : Atom) → atom_truth (get_or atoms n d) x ≡ true)
truth_at [] n x h = absurd (omega arith)
truth_at (a ∷ atoms) zero x h = elim (false_or_true (atom_truth a x)) [ inl e ↦ inl (λ d. e) | inr e ↦ inr (λ d. e) ]
truth_at (a ∷ atoms) (suc n) x h = truth_at atoms n x (omega (arith, h))

-- two vectors that agree up to an atom, which is false on the first and true on the second
pub before_at : (atoms : List Atom) (n : ℕ) (x y : List ℤ) → n < length atoms → SameUpTo n atoms x y → ((d : Atom) → atom_truth (get_or atoms n d) x ≡ false) → ((d : Atom) → atom_truth (get_or atoms n d) y ≡ true) → IsPatternBefore (pattern_of atoms x) (pattern_of atoms y)
before_at [] n x y h same f t = absurd (omega arith)
before_at (a ∷ atoms) zero x y h same f t = inl (f a, t a)
before_at (a ∷ atoms) (suc n) x y h same f t = inr (same zero a (omega arith), before_at atoms n x y (omega (arith, h)) (λ k d l. same (suc k) d (omega (arith, l))) (λ d. f d) (λ d. t d))

pub ascending_append : (ps qs : List (List Bool)) → AreAscending ps → AreAscending qs → AllByRecursion (λ p. All (IsPatternBefore p) qs) ps → AreAscending (ps ++ qs)
ascending_append [] qs a b h = b
ascending_append (p ∷ ps) qs a b h = (All-append (IsPatternBefore p) ps qs a.0 h.0, ascending_append ps qs a.1 b h.1)

pub never_before_itself : (p : List Bool) → IsPatternBefore p p → ⊥
never_before_itself [] h = h
never_before_itself (a ∷ p) h = elim h [ inl e ↦ absurd (let f = e.0 in let t = e.1 in cc) | inr e ↦ never_before_itself p e.1 ]

all_at : {X : Type 0} (P : X → Type 0) (xs : List X) (j : ℕ) (y : X) → AllByRecursion P xs → slice_get xs j ≡ Some y → P y
all_at P [] j y h e = absurd cc
all_at P (x ∷ xs) zero y h e = let q : x ≡ y = cc in subst P q h.0
all_at P (x ∷ xs) (suc j) y h e = all_at P xs j y h.1 e

-- ascending patterns are different
pub ascending_different : (ps : List (List Bool)) (i j : ℕ) (p q : List Bool) → AreAscending ps → slice_get ps i ≡ Some p → slice_get ps j ≡ Some q → p ≡ q → i ≡ j
ascending_different [] i j p q a e f s = absurd cc
ascending_different (r ∷ ps) zero zero p q a e f s = refl
ascending_different (r ∷ ps) zero (suc j) p q a e f s =
    let b = all_at (IsPatternBefore r) ps j q (recursion_from_All (IsPatternBefore r) ps a.0) f in
    let k : q ≡ r = cc in
    absurd (never_before_itself r (let P : List Bool → Type 0 = λ t. IsPatternBefore r t in subst P k b))
ascending_different (r ∷ ps) (suc i) zero p q a e f s =
    let b = all_at (IsPatternBefore r) ps i p (recursion_from_All (IsPatternBefore r) ps a.0) e in
    let k : p ≡ r = cc in
    absurd (never_before_itself r (let P : List Bool → Type 0 = λ t. IsPatternBefore r t in subst P k b))
ascending_different (r ∷ ps) (suc i) (suc j) p q a e f s = ap suc (ascending_different ps i j p q a.1 e f s)

pub patterns_at : (atoms : List Atom) (xs : List (List ℤ)) (i : ℕ) (x : List ℤ) → slice_get xs i ≡ Some x → slice_get (map (pattern_of atoms) xs) i ≡ Some (pattern_of atoms x)
patterns_at atoms [] i x e = absurd cc
patterns_at atoms (y ∷ xs) zero x e = let k : y ≡ x = cc in ap (λ t. Some (pattern_of atoms t)) k
patterns_at atoms (y ∷ xs) (suc i) x e = patterns_at atoms xs i x e
