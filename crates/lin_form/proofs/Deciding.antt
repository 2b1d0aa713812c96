-- The atoms of a comparison decide its truth, and a comparison has one pair of them.
use Rattle.std.proofs.Common.{◌≡◌, List, [], ◌∷◌, map, ℤ, pos, Bool, true, false, ap, sym, ◌∙◌, refl, Option, Some, None, if◌then◌else◌}
use Rattle.std.specs.List.{All, cons_option}
use Rattle.std.specs.Ordering.{int_eq}
use Rattle.std.proofs.Math.Path.{to_path_p}
use Rattle.std.proofs.lemmas.Bool.{false≢true}
use Rattle.std.proofs.lemmas.Bool.Decides.{Decides-int_eq}
use Rattle.std.proofs.lemmas.List.Elements.{All-head, All-tail, All-weaker}
use Rattle.std.proofs.lemmas.List.Sums.{AllPass-from_list_all, list_all-from_AllPass}
use Rattle.lin_form.specs.Atom.{AgreeOnPair, IsAtomIf, IsAtomOf, IsPairOf, inequality_of}
use Rattle.lin_form.specs.Form.{truth_of}
use Rattle.lin_form.specs.Inequality.{AreZero, Inequality, IsNormal, first_of, second_of, leads_positive, opposite, put_in, says}
use Rattle.lin_form.specs.Normal.{are_zero, atoms_of_comparison, inequalities_of, normal_of}
use Rattle.lin_form.specs.SameAtom.{IsNormal-prop}
use Rattle.lin_form.specs.declared.atom.Atom.{Atom}
use Rattle.lin_form.specs.declared.literal.Pair.{Pair}
use Rattle.lin_form.specs.declared.form.Comparison.{Comparison}
use Rattle.lin_form.specs.declared.form.Relation.{Relation}
use Rattle.lin_form.specs.declared.form.Relation.TheVariants.{Less, LessOrEqual, Equal, NotEqual, GreaterOrEqual, Greater}
use Rattle.lin_form.proofs.Divisors.{AreZero-neg}
use Rattle.lin_form.proofs.Normals.{IsNormalForm-computed, IsNormalForm-one}
use Rattle.lin_form.proofs.Truths.{follows_side, joined, says_if, says-normal, truth_joined, truth-zero, truth-agree}

pub AreZero-tested : (numbers : List ℤ) → are_zero numbers ≡ true → AreZero numbers
AreZero-tested numbers e =
    All-weaker (λ a. int_eq a (pos 0) ≡ true) (λ a. a ≡ pos 0) (λ a h. (Decides-int_eq a (pos 0)).0 h) numbers
    (AllPass-from_list_all (λ a. int_eq a (pos 0)) numbers e)

pub AreZero-test : (numbers : List ℤ) → AreZero numbers → are_zero numbers ≡ true
AreZero-test numbers z =
    list_all-from_AllPass (λ a. int_eq a (pos 0)) numbers
    (All-weaker (λ a. a ≡ pos 0) (λ a. int_eq a (pos 0) ≡ true) (λ a h. (Decides-int_eq a (pos 0)).1 h) numbers z)

pub some_tested : (numbers : List ℤ) → are_zero numbers ≡ false → AreZero numbers → ⊥
some_tested numbers e z = false≢true (sym e ∙ AreZero-test numbers z)

some_first : (relation : Relation) (whole : Inequality) → (AreZero whole.coefficients → ⊥) → AreZero (first_of relation whole).coefficients → ⊥
some_first Less whole some z = some (AreZero-neg whole.coefficients z)
some_first LessOrEqual whole some z = some (AreZero-neg whole.coefficients z)
some_first Equal whole some z = some z
some_first NotEqual whole some z = some z
some_first GreaterOrEqual whole some z = some z
some_first Greater whole some z = some z

-- the atom of one inequality decides it
agree_one : (whole : Inequality) (x y : List ℤ) → (AreZero whole.coefficients → ⊥)
    → says (normal_of whole) x ≡ says (normal_of whole) y → says whole x ≡ says whole y
agree_one whole x y some e =
    let n = IsNormalForm-computed whole some in
    says-normal whole (normal_of whole) n x ∙ ap (follows_side (leads_positive whole.coefficients)) e ∙ sym (says-normal whole (normal_of whole) n y)

abbrev Alike : List ℤ → List ℤ → Inequality → Type 0
Alike x y atom = says atom x ≡ says atom y

agree_second : (relation : Relation) (whole : Inequality) (x y : List ℤ) → (AreZero whole.coefficients → ⊥)
    → All (Alike x y) (map normal_of (cons_option (second_of relation whole) []))
    → says_if (second_of relation whole) x ≡ says_if (second_of relation whole) y
agree_second Less whole x y some h = refl
agree_second LessOrEqual whole x y some h = refl
agree_second Equal whole x y some h =
    ap Some (agree_one (opposite whole) x y (λ z. some (AreZero-neg whole.coefficients z))
    (All-head (Alike x y) (normal_of (opposite whole)) [] h))
agree_second NotEqual whole x y some h =
    ap Some (agree_one (opposite whole) x y (λ z. some (AreZero-neg whole.coefficients z))
    (All-head (Alike x y) (normal_of (opposite whole)) [] h))
agree_second GreaterOrEqual whole x y some h = refl
agree_second Greater whole x y some h = refl

agree_all : (comparison : Comparison) (memory x y : List ℤ) (zero : Bool) → are_zero comparison.form.inputs ≡ zero
    → All (Alike x y) (if zero then [] else map normal_of
    (inequalities_of comparison.relation (put_in comparison.form memory)))
    → truth_of comparison x memory ≡ truth_of comparison y memory
agree_all comparison memory x y true e h = truth-zero comparison x y memory (AreZero-tested comparison.form.inputs e)
agree_all comparison memory x y false e h =
    let whole = put_in comparison.form memory in
    let some = some_tested comparison.form.inputs e in
    let first = first_of comparison.relation whole in
    let more = map normal_of (cons_option (second_of comparison.relation whole) []) in
    let p = agree_one first x y (some_first comparison.relation whole some) (All-head (Alike x y) (normal_of first) more h) in
    let q = agree_second comparison.relation whole x y some (All-tail (Alike x y) (normal_of first) more h) in
    truth_joined comparison x memory ∙ (λ i. joined comparison.relation (p i) (q i)) ∙ sym (truth_joined comparison y memory)

-- vectors on which the atoms agree give the comparison the same truth
pub atoms-decide : (comparison : Comparison) (memory x y : List ℤ)
    → All (λ atom. says atom x ≡ says atom y) (atoms_of_comparison comparison memory)
    → truth_of comparison x memory ≡ truth_of comparison y memory
atoms-decide comparison memory x y h = agree_all comparison memory x y (are_zero comparison.form.inputs) refl h

-- atoms of one inequality are one atom
pub same_atom_of : (a b : Atom) → inequality_of a ≡ inequality_of b → a ≡ b
same_atom_of a b e = λ i. record {
  coefficients = (e i).coefficients;
  constant = (e i).constant;
  normal = to_path_p (λ j. IsNormal ((e j).coefficients) ((e j).constant)) {a = a.normal} {b = b.normal} (IsNormal-prop _ _ _ _) i;
}

one_if : (whole : Option Inequality) (a b : Option Atom) → IsAtomIf whole a → IsAtomIf whole b → a ≡ b
one_if None None None h k = refl
one_if None None (Some b) h k = absurd k
one_if None (Some a) b h k = absurd h
one_if (Some whole) None b h k = absurd h
one_if (Some whole) (Some a) None h k = absurd k
one_if (Some whole) (Some a) (Some b) h k = ap Some (same_atom_of a b (IsNormalForm-one whole (inequality_of a) (inequality_of b) h k))

one_pair : (comparison : Comparison) (memory : List ℤ) (a b : Pair) (zero : Bool)
    → are_zero comparison.form.inputs ≡ zero → IsPairOf comparison memory a → IsPairOf comparison memory b → a ≡ b
one_pair comparison memory a b true e h k = let z = AreZero-tested comparison.form.inputs e in h.none z ∙ sym (k.none z)
one_pair comparison memory a b false e h k =
    let some = some_tested comparison.form.inputs e in
    let p = one_if (Some (first_of comparison.relation (put_in comparison.form memory))) a.first b.first (h.first some) (k.first some) in
    let q = one_if (second_of comparison.relation (put_in comparison.form memory)) a.second b.second (h.second some) (k.second some) in
    λ i. record { first = p i; second = q i }

-- a comparison has one pair
pub IsPairOf-one : (comparison : Comparison) (memory : List ℤ) (a b : Pair) → IsPairOf comparison memory a → IsPairOf comparison memory b → a ≡ b
IsPairOf-one comparison memory a b = one_pair comparison memory a b (are_zero comparison.form.inputs) refl

-- the atom of an inequality, as it is computed
pub computed_atom : (whole : Inequality) (atom : Atom) → (AreZero whole.coefficients → ⊥) → IsAtomOf whole atom → inequality_of atom ≡ normal_of whole
computed_atom whole atom some h = IsNormalForm-one whole (inequality_of atom) (normal_of whole) h (IsNormalForm-computed whole some)

computed_first : (whole : Inequality) (atom : Option Atom) (more : List Atom) → (AreZero whole.coefficients → ⊥)
    → IsAtomIf (Some whole) atom → map inequality_of (cons_option atom more) ≡ normal_of whole ∷ map inequality_of more
computed_first whole None more some h = absurd h
computed_first whole (Some atom) more some h = ap (λ a. a ∷ map inequality_of more) (computed_atom whole atom some h)

computed_second : (relation : Relation) (whole : Inequality) (atom : Option Atom) → (AreZero whole.coefficients → ⊥)
    → IsAtomIf (second_of relation whole) atom → map inequality_of (cons_option atom [])
    ≡ map normal_of (cons_option (second_of relation whole) [])
computed_second Less whole None some h = refl
computed_second Less whole (Some atom) some h = absurd h
computed_second LessOrEqual whole None some h = refl
computed_second LessOrEqual whole (Some atom) some h = absurd h
computed_second Equal whole atom some h = computed_first (opposite whole) atom [] (λ z. some (AreZero-neg whole.coefficients z)) h
computed_second NotEqual whole atom some h = computed_first (opposite whole) atom [] (λ z. some (AreZero-neg whole.coefficients z)) h
computed_second GreaterOrEqual whole None some h = refl
computed_second GreaterOrEqual whole (Some atom) some h = absurd h
computed_second Greater whole None some h = refl
computed_second Greater whole (Some atom) some h = absurd h

-- the atoms of a relation of a sum over some input with 0, as they are computed
pub computed_both : (relation : Relation) (whole : Inequality) (first second : Option Atom)
    → (AreZero whole.coefficients → ⊥) → IsAtomIf (Some (first_of relation whole)) first
    → IsAtomIf (second_of relation whole) second → map inequality_of (cons_option first (cons_option second []))
    ≡ map normal_of (inequalities_of relation whole)
computed_both relation whole first second some h k =
    computed_first (first_of relation whole) first (cons_option second []) (some_first relation whole some) h
    ∙ ap (λ more. normal_of (first_of relation whole) ∷ more) (computed_second relation whole second some k)

computed_pair : (comparison : Comparison) (memory : List ℤ) (pair : Pair) (zero : Bool)
    → are_zero comparison.form.inputs ≡ zero → IsPairOf comparison memory pair
    → map inequality_of (cons_option pair.first (cons_option pair.second []))
    ≡ (if zero then [] else map normal_of (inequalities_of comparison.relation (put_in comparison.form memory)))
computed_pair comparison memory pair true e h =
    ap (λ (p : Pair). map inequality_of (cons_option p.first (cons_option p.second [])))
    (h.none (AreZero-tested comparison.form.inputs e))
computed_pair comparison memory pair false e h =
    let some = some_tested comparison.form.inputs e in
    computed_both comparison.relation (put_in comparison.form memory) pair.first pair.second some (h.first some) (h.second some)

-- the atoms of a pair are those that are computed
pub IsPairOf-computed : (comparison : Comparison) (memory : List ℤ) (pair : Pair) → IsPairOf comparison memory pair
    → map inequality_of (cons_option pair.first (cons_option pair.second [])) ≡ atoms_of_comparison comparison memory
IsPairOf-computed comparison memory pair = computed_pair comparison memory pair (are_zero comparison.form.inputs) refl

decided_pair : (comparison : Comparison) (memory x y : List ℤ) (pair : Pair) (zero : Bool)
    → are_zero comparison.form.inputs ≡ zero → IsPairOf comparison memory pair → AgreeOnPair pair x y
    → truth_of comparison x memory ≡ truth_of comparison y memory
decided_pair comparison memory x y pair true e h a = truth-zero comparison x y memory (AreZero-tested comparison.form.inputs e)
decided_pair comparison memory x y pair false e h a = truth-agree comparison memory pair (some_tested comparison.form.inputs e) h x y a

pub IsPairOf-decides : (comparison : Comparison) (memory x y : List ℤ) (pair : Pair) → IsPairOf comparison memory pair
    → AgreeOnPair pair x y → truth_of comparison x memory ≡ truth_of comparison y memory
IsPairOf-decides comparison memory x y pair = decided_pair comparison memory x y pair (are_zero comparison.form.inputs) refl
