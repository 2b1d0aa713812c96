-- Atoms that are found, and their inequalities.
use Rattle.std.proofs.Common.{◌≡◌, ℕ, zero, suc, ◌<◌, ◌≤◌, Bool, true, false, ◌||◌, if◌then◌else◌, List, [], ◌∷◌, ◌++◌, map, length, get_or, arith, ap, sym, ⊎_elim, ◌∙◌, refl}
use Rattle.std.specs.List.{list_any, IsDistinct}
use Rattle.std.proofs.lemmas.Bool.{cases_order, false≢true}
use Rattle.std.proofs.lemmas.Map.Keys.{IsDistinct-head, IsDistinct-tail}
use Rattle.std.proofs.lemmas.List.Elements.{All-get_or, All-from_recursion}
use Rattle.std.proofs.lemmas.Option.{get_or_from_slice_get, slice_get_within}
use Rattle.lin_form.specs.Atom.{AreAtoms, inequality_of}
use Rattle.lin_form.specs.SameAtom.{same_atom, same_atom_equiv}
use Rattle.lin_form.specs.declared.atom.Atom.{Atom}
use Rattle.guard_atoms.specs.Atoms.{add, is_same}

-- an atom is among others where its inequality is among theirs
among : (atom : Atom) (atoms : List Atom) → list_any (same_atom atom) atoms ≡ list_any (is_same (inequality_of atom)) (map inequality_of atoms)
among atom [] = refl
among atom (other ∷ atoms) = λ i. same_atom atom other || among atom atoms i

end : (atoms : List Atom) (atom : Atom) → map inequality_of (atoms ++ atom ∷ []) ≡ map inequality_of atoms ++ inequality_of atom ∷ []
end [] atom = refl
end (other ∷ atoms) atom = ap (λ l. inequality_of other ∷ l) (end atoms atom)

inserted_if : (atoms : List Atom) (atom : Atom) (b : Bool) → map inequality_of (if b then atoms else atoms ++ atom ∷ []) ≡ (if b then map inequality_of atoms else map inequality_of atoms ++ inequality_of atom ∷ [])
inserted_if atoms atom true = refl
inserted_if atoms atom false = end atoms atom

-- an atom that is put in where it is not there is added
pub inserted : (atoms : List Atom) (atom : Atom) → map inequality_of (if list_any (same_atom atom) atoms then atoms else atoms ++ atom ∷ []) ≡ add (map inequality_of atoms) (inequality_of atom)
inserted atoms atom = inserted_if atoms atom (list_any (same_atom atom) atoms) ∙ (λ i. if among atom atoms i then map inequality_of atoms else map inequality_of atoms ++ inequality_of atom ∷ [])

apart : (atoms : List Atom) → IsDistinct same_atom atoms → (i j : ℕ) (d : Atom) → i < j → j < length atoms → get_or atoms i d ≡ get_or atoms j d → ⊥
apart [] h i j d l m e = absurd (omega arith)
apart (atom ∷ atoms) h i zero d l m e = absurd (omega arith)
apart (atom ∷ atoms) h zero (suc j) d l m e =
    let far = All-get_or (λ other. same_atom atom other ≡ false) atoms j d (omega arith) (All-from_recursion (λ other. same_atom atom other ≡ false) atoms (IsDistinct-head same_atom atom atoms h)) in
    false≢true (sym far ∙ ap (same_atom atom) (sym e) ∙ same_atom_equiv.refl atom)
apart (atom ∷ atoms) h (suc i) (suc j) d l m e = apart atoms (IsDistinct-tail same_atom atom atoms h) i j d (omega arith) (omega arith) e

-- different atoms, at most 128, are a list of atoms
pub are_atoms : (atoms : List Atom) → IsDistinct same_atom atoms → length atoms ≤ 128 → AreAtoms atoms
are_atoms atoms h few = record {
  limit = few;
  different = λ i j atom e f.
      let p = get_or_from_slice_get atoms i atom atom e in
      let q = get_or_from_slice_get atoms j atom atom f in
      ⊎_elim (λ same. same) (⊎_elim
      (λ l. absurd (apart atoms h i j atom l (slice_get_within atoms j atom f) (p ∙ sym q)))
      (λ l. absurd (apart atoms h j i atom l (slice_get_within atoms i atom e) (q ∙ sym p)))) (cases_order i j);
}
