-- A partition leaves no more patterns than it has classes.
use Rattle.std.proofs.Common.{◌≡◌, ◌≢◌, ℕ, zero, suc, ◌<◌, ℤ, Bool, List, [], ◌∷◌, length, get_or, refl, ap, sym, ◌∙◌, arith}
use Rattle.std.specs.Prelude.{Contains}
use Rattle.std.specs.List.{AllByRecursion, AllZip, AllPairs}
use Rattle.std.proofs.lemmas.Bool.Decides.{Decides-eqb}
use Rattle.std.proofs.lemmas.List.{length-map}
use Rattle.std.proofs.lemmas.List.Elements.{recursion_from_All, All-from_recursion, All-weaker, All-contains, at_read}
use Rattle.std.proofs.lemmas.Map.Made.{IsDistinct-from_AllPairs}
use Rattle.std.proofs.lemmas.Map.Steps.{length-le_from_distinct_below}
use Rattle.std.proofs.lemmas.Map.Views.{Contains-from_any}
use Rattle.std.proofs.lemmas.Option.{slice_get-get_or}
use Rattle.input_classes.specs.Partition.{pattern_of, HasMorePatterns, IsPartition, Partition, patterns}
use Rattle.input_classes.specs.VectorSet.{IsInBox}
use Rattle.lin_form.specs.declared.atom.Atom.{Atom}
use Rattle.input_classes.specs.declared.class.Class.{Class}

-- the place of a vector's pattern in a list
record IsAt (atoms : List Atom) (ps : List (List Bool)) (x : List ℤ) (k : ℕ) : Type 0 where
  below : k < length ps
  there : (d : List Bool) → get_or ps k d ≡ pattern_of atoms x

places : (atoms : List Atom) (ps : List (List Bool)) (xs : List (List ℤ)) → AllByRecursion (λ x. Contains ps (pattern_of atoms x)) xs → List ℕ
places atoms ps [] h = []
places atoms ps (x ∷ xs) h = h.0.0 ∷ places atoms ps xs h.1

are_at : (atoms : List Atom) (ps : List (List Bool)) (xs : List (List ℤ)) (h : AllByRecursion (λ x. Contains ps (pattern_of atoms x)) xs) → AllZip (IsAt atoms ps) xs (places atoms ps xs h)
unfolding places
are_at atoms ps [] h = tt
are_at atoms ps (x ∷ xs) h =
    (record { below = h.0.1; there = at_read ps (λ p. p ≡ pattern_of atoms x) h.0.0 (pattern_of atoms x) h.0.1 (sym h.0.2) refl }, are_at atoms ps xs h.1)

zip_length : {A B : Type 0} (R : A → B → Type 0) (xs : List A) (ys : List B) → AllZip R xs ys → length xs ≡ length ys
zip_length R [] [] h = refl
zip_length R [] (b ∷ ys) h = absurd h
zip_length R (a ∷ xs) [] h = absurd h
zip_length R (a ∷ xs) (b ∷ ys) h = let e = zip_length R xs ys h.1 in omega arith

zip_at : {A B : Type 0} (R : A → B → Type 0) (xs : List A) (ys : List B) (i : ℕ) (d : A) (e : B) → AllZip R xs ys → i < length xs → R (get_or xs i d) (get_or ys i e)
zip_at R [] ys i d e h below = absurd (omega arith)
zip_at R (x ∷ xs) [] i d e h below = absurd h
zip_at R (x ∷ xs) (y ∷ ys) zero d e h below = h.0
zip_at R (x ∷ xs) (y ∷ ys) (suc i) d e h below = zip_at R xs ys i d e h.1 (omega arith)

all_below : (atoms : List Atom) (ps : List (List Bool)) (xs : List (List ℤ)) (ks : List ℕ) → AllZip (IsAt atoms ps) xs ks → AllByRecursion (λ k. k < length ps) ks
all_below atoms ps [] [] h = tt
all_below atoms ps [] (k ∷ ks) h = absurd h
all_below atoms ps (x ∷ xs) [] h = absurd h
all_below atoms ps (x ∷ xs) (k ∷ ks) h = (h.0.below, all_below atoms ps xs ks h.1)

pub few_patterns : (r : Partition) → IsPartition r → HasMorePatterns (length r.classes) r.atoms r.ranges r.assumed → ⊥
few_patterns r h m =
    let atoms = r.atoms in
    let ps = patterns r in
    let xs = m.vectors in
    let there = recursion_from_All (λ x. Contains ps (pattern_of atoms x)) xs (All-weaker (IsInBox r.ranges r.assumed) (λ x. Contains ps (pattern_of atoms x)) (λ x i. h.complete x i) xs m.inside) in
    let ks = places atoms ps xs there in
    let z = are_at atoms ps xs there in
    let size = zip_length (IsAt atoms ps) xs ks z in
    let apart : AllPairs (λ p q. p ≢ q) ks = λ i j d first second same.
    let a = zip_at (IsAt atoms ps) xs ks i [] d z (omega arith) in
    let b = zip_at (IsAt atoms ps) xs ks j [] d z (omega arith) in
    let e = sym (a.there []) ∙ ap (λ k. get_or ps k []) same ∙ b.there [] in
    let q = m.different i j (get_or xs i []) (get_or xs j []) (slice_get-get_or xs i [] (omega arith)) (slice_get-get_or xs j [] (omega arith)) e in
    absurd (omega (arith, q)) in
    let distinct = IsDistinct-from_AllPairs Decides-eqb ks apart in
    let below = All-from_recursion (λ k. k < length ps) ks (all_below atoms ps xs ks z) in
    let few = length-le_from_distinct_below ks (length ps) distinct (λ q k. All-contains (λ p. p < length ps) ks q below (Contains-from_any (λ x y. (Decides-eqb x y).0) q ks k)) in
    let n = length-map r.classes (λ (c : Class). c.pattern) in
    let g = m.more in
    absurd (omega arith)
