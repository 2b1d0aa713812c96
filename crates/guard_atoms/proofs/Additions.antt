-- Atoms that are added one after another.
use Rattle.std.proofs.Common.{◌≡◌, ℕ, ◌+◌, ◌<◌, ◌≤◌, Bool, true, false, if◌then◌else◌, List, [], ◌∷◌, ◌++◌, map, length, get_or, drop, ℤ, Result, Ok, Err, length-append, arith, ap, sym, subst, ◌∙◌, refl}
use Rattle.std.specs.Prelude.{fold, flat_map, nat_lt, IsErrAnd}
use Rattle.std.proofs.lemmas.Bool.Decides.{nat_tests}
use Rattle.std.specs.List.{list_any}
use Rattle.std.proofs.lemmas.List.{at_drop_more}
use Rattle.std.proofs.lemmas.List.Folds.{flat_map-map}
use Rattle.std.proofs.lemmas.List.Sums.{fold-append}
use Rattle.lin_form.specs.Form.{memory_part}
use Rattle.lin_form.specs.Inequality.{Inequality}
use Rattle.lin_form.specs.Normal.{are_zero}
use Rattle.lin_form.specs.declared.form.Comparison.{Comparison}
use Rattle.chart_model.specs.declared.state.Memory.{Memory}
use Rattle.chart_model.specs.declared.chart.Chart.{Chart}
use Rattle.guard_atoms.specs.Answers.{IsAtomFault}
use Rattle.guard_atoms.specs.Atoms.{add, atoms_in, atoms_over, guard_comparisons, has_large_coefficient, is_same, valuations}
use Rattle.guard_atoms.specs.declared.error.AtomError.{AtomError}
use Rattle.guard_atoms.specs.declared.error.AtomError.TheVariants.{Coefficient, TooMany, Memory as NoMemory}
use Rattle.guard_atoms.specs.inside.Adding.{Adds, atoms_with}

grows_if : (found : List Inequality) (atom : Inequality) (b : Bool) → length found ≤ length (if b then found else found ++ atom ∷ [])
grows_if found atom true = omega arith
grows_if found atom false = rw length-append (omega arith)

-- none of the atoms found is lost
pub grows : (found atoms : List Inequality) → length found ≤ length (fold add found atoms)
grows found [] = omega arith
grows found (atom ∷ atoms) =
    let here = grows_if found atom (list_any (is_same atom) found) in
    let more = grows (add found atom) atoms in
    omega (arith, here, more)

-- of all atoms to be added to the old ones, those that are left are still to be added to those found
pub record IsAdding (old all found left : List Inequality) : Type 0 where
  pub same : fold add found left ≡ fold add old all
  pub few : length old ≤ 128 → length found ≤ 128

pub begins : (old all : List Inequality) → IsAdding old all old all
begins old all = record { same = refl; few = λ few. few }

pub goes_on : (old all found part left new : List Inequality) → IsAdding old all found (part ++ left) → Adds found part new (Ok tt) → IsAdding old all new left
goes_on old all found part left new h k = record {
  same = ap (λ l. fold add l left) k.0 ∙ sym (fold-append add found part left) ∙ h.same;
  few = λ few. k.1 (h.few few);
}

pub stops : (old all found part left new : List Inequality) (error : AtomError) → IsAdding old all found (part ++ left) → Adds found part new (Err error) → Adds old all new (Err error)
stops old all found part left new Coefficient h k = k
stops old all found part left new TooMany h k =
    let more = grows (fold add found part) left in
    let is : length (fold add (fold add found part) left) ≡ length (fold add old all) = ap length (sym (fold-append add found part left) ∙ h.same) in
    omega (arith, more, is, k)
stops old all found part left new NoMemory h k = tt

pub ends : (old all found : List Inequality) → IsAdding old all found [] → Adds old all found (Ok tt)
ends old all found h = (h.same, h.few)

-- the same atoms, written otherwise
pub adds_same : (old atoms others new : List Inequality) (result : Result (Unit {0}) AtomError) → atoms ≡ others → Adds old atoms new result → Adds old others new result
adds_same old atoms others new result e h = subst (λ l. Adds old l new result) e h

flat_map-none : {X Y : Type 0} (none : List Y) → none ≡ [] → (xs : List X) → flat_map (λ x. none) xs ≡ []
flat_map-none none e [] = refl
flat_map-none none e (x ∷ xs) = (λ i. e i ++ flat_map (λ x. none) xs) ∙ flat_map-none none e xs

of_test : (memories : List Memory) (comparison : Comparison) (b : Bool) → are_zero comparison.form.inputs ≡ b → atoms_over memories comparison ≡ flat_map (λ values. if b then [] else atoms_with comparison.relation comparison.form.inputs (memory_part comparison.form values)) (valuations comparison.form.memory memories)
of_test memories comparison b e = λ i. flat_map (λ values. if e i then [] else atoms_with comparison.relation comparison.form.inputs (memory_part comparison.form values)) (valuations comparison.form.memory memories)

-- the atoms of a comparison are those with what the memories make of it
pub of_constants : (memories : List Memory) (comparison : Comparison) (constants : List ℤ) → are_zero comparison.form.inputs ≡ false → constants ≡ map (memory_part comparison.form) (valuations comparison.form.memory memories) → flat_map (atoms_with comparison.relation comparison.form.inputs) constants ≡ atoms_over memories comparison
of_constants memories comparison constants e are =
    ap (flat_map (atoms_with comparison.relation comparison.form.inputs)) are
    ∙ flat_map-map (atoms_with comparison.relation comparison.form.inputs) (memory_part comparison.form) (valuations comparison.form.memory memories)
    ∙ sym (of_test memories comparison false e)

-- without an input there are none
pub of_none : (memories : List Memory) (comparison : Comparison) → are_zero comparison.form.inputs ≡ true → atoms_over memories comparison ≡ []
of_none memories comparison e = of_test memories comparison true e ∙ flat_map-none [] refl (valuations comparison.form.memory memories)

-- what the exit of a `?` answers
pub passed_on : {T E : Type 0} (P : Result T E → Type 0) (r : Result T E) (error : E) → IsErrAnd r (λ y. y ≡ error) → P (Err error) → P r
passed_on P (Ok x) error is p = absurd is
passed_on P (Err y) error is p = subst (λ z. P (Err z)) (sym is) p

-- the first element of those that are left
pub one_left : {X : Type 0} (f : X → List Inequality) (old all found : List Inequality) (xs : List X) (i : ℕ) (d : X) → i < length xs → IsAdding old all found (flat_map f (drop i xs)) → IsAdding old all found (f (get_or xs i d) ++ flat_map f (drop (i + 1) xs))
one_left f old all found xs i d l h = subst (IsAdding old all found) (at_drop_more (flat_map f) xs i d l) h

above_limit : (n : ℕ) → 128 < n → nat_lt 128 n ≡ true
above_limit n h = grind (arith, nat_tests)

pub within_limit : (n : ℕ) → n ≤ 128 → nat_lt 128 n ≡ false
within_limit n h = grind (arith, nat_tests)

-- why there are no atoms, where no coefficient is large
pub fault : (chart : Chart) (cuts : List Comparison) (old atoms new : List Inequality) (error : AtomError) → old ≡ [] → atoms ≡ flat_map (atoms_over chart.memories) (guard_comparisons chart ++ cuts) → has_large_coefficient chart cuts ≡ false → Adds old atoms new (Err error) → IsAtomFault chart cuts error
fault chart cuts old atoms new Coefficient none are small h = absurd h
fault chart cuts old atoms new TooMany none are small h =
    let whole : fold add old atoms ≡ atoms_in chart cuts = λ i. fold add (none i) (are i) in
    (small, above_limit (length (atoms_in chart cuts)) (subst (λ l. 128 < length l) whole h))
fault chart cuts old atoms new NoMemory none are small h = tt
