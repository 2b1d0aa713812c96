-- Vectors on which all atoms of a chart agree.
use Rattle.std.proofs.Common.{◌≡◌, ℕ, zero, suc, Bool, true, false, ◌||◌, if◌then◌else◌, List, [], ◌∷◌, ◌++◌, map, get_or, drop, ℤ, pos, ◌+ℤ◌, ◌*ℤ◌, ◌≤ℤ◌, ◌<ℤ◌, Option, Some, None, arith, ap, sym, subst, ◌∙◌, refl}
use Rattle.std.specs.Prelude.{fold, flat_map}
use Rattle.std.specs.List.{list_any, All, AllZip, AllByRecursion}
use Rattle.std.specs.Option.{option_map_or}
use Rattle.std.specs.Ordering.{int_eq}
use Rattle.std.specs.Cmp.Rules.{signed_items}
use Rattle.std.proofs.lemmas.Int.{ints, by_lt_z}
use Rattle.std.proofs.lemmas.Bool.{false≢true}
use Rattle.std.proofs.lemmas.Bool.Decides.{Decides-and, Decides-int_eq}
use Rattle.std.proofs.lemmas.List.Elements.{All-from_recursion, recursion_from_All}
use Rattle.lin_form.specs.Atom.{inequality_of}
use Rattle.guard_atoms.proofs.Each.{back, front, parts, unmap, weaker}
use Rattle.lin_form.specs.Form.{relates, sum_of_products, truth_of}
use Rattle.lin_form.specs.Inequality.{Inequality, says}
use Rattle.lin_form.specs.Normal.{atoms_of_comparison}
use Rattle.lin_form.specs.Trees.{Tree}
use Rattle.lin_form.specs.declared.atom.Atom.{Atom}
use Rattle.lin_form.specs.declared.form.Comparison.{Comparison}
use Rattle.lin_form.proofs.Deciding.{atoms-decide}
use Rattle.input_classes.specs.Partition.{Partition, pattern_of}
use Rattle.input_classes.specs.VectorSet.{VectorSet, Word}
use Rattle.subject.specs.Meaning.{answer_from}
use Rattle.subject.specs.Alike.{ActsLike, MembersActAlike}
use Rattle.chart_model.specs.Chart.{range_size}
use Rattle.chart_model.specs.Guard.{comparisons_of, truth_of_guard}
use Rattle.chart_model.specs.declared.chart.Chart.{Chart}
use Rattle.chart_model.specs.declared.state.Memory.{Memory}
use Rattle.chart_model.proofs.GuardLemmas.{truth_of_guard-same}
use Rattle.chart_meaning.specs.Configuration.{Configuration}
use Rattle.chart_meaning.specs.IsConfiguration.{IsConfiguration, IsInMemory}
use Rattle.chart_meaning.specs.Plan.{plan_of_chart}
use Rattle.chart_meaning.specs.Step.{is_guard_true, next_of, reply_of, start_of}
use Rattle.chart_meaning.proofs.Deciding.{next_of-alike}
use Rattle.chart_meaning.proofs.Keeping.{IsConfiguration-next, IsConfiguration-start}
use Rattle.guard_atoms.specs.Atoms.{add, atoms_in, atoms_over, comparisons_on, guard_comparisons, is_same, numbers_from, valuations, values_of}

or_other : (b c : Bool) → b ≡ false → (b || c) ≡ true → c ≡ true
or_other true c e h = absurd (false≢true (sym e))
or_other false c e h = h

-- an element that passes a test, and what holds of all holds of it
found_at : {X : Type 0} (p : X → Bool) (P : X → Type 0) (x : X) (xs : List X) (b : Bool) → p x ≡ b → list_any p (x ∷ xs) ≡ true → P x → (list_any p xs ≡ true → (y : X) × (p y ≡ true) × P y) → (y : X) × (p y ≡ true) × P y
found_at p P x xs true q e h later = (x, q, h)
found_at p P x xs false q e h later = later (or_other (p x) (list_any p xs) q e)

found_any : {X : Type 0} (p : X → Bool) (P : X → Type 0) (xs : List X) → list_any p xs ≡ true → AllByRecursion P xs → (x : X) × (p x ≡ true) × P x
found_any p P [] e h = absurd (false≢true e)
found_any p P (x ∷ xs) e h = found_at p P x xs (p x) refl e h.0 (λ q. found_any p P xs q h.1)

is_same-same : (a b : Inequality) → is_same a b ≡ true → a ≡ b
is_same-same a b e =
    let h = (Decides-and _ _ (signed_items a.coefficients b.coefficients) (Decides-int_eq a.constant b.constant)).0 e in
    λ i. record { coefficients = h.0 i; constant = h.1 i }

kept_one : (P : Inequality → Type 0) (found : List Inequality) (atom : Inequality) (b : Bool) → list_any (is_same atom) found ≡ b → AllByRecursion P (if b then found else found ++ atom ∷ []) → AllByRecursion P found × P atom
kept_one P found atom true e h = let f = found_any (is_same atom) P found e h in (h, subst P (sym (is_same-same atom f.0 f.1)) f.2)
kept_one P found atom false e h = (front P found (atom ∷ []) h, (back P found (atom ∷ []) h).0)

-- what holds of the atoms found holds of all that were added
kept : (P : Inequality → Type 0) (found atoms : List Inequality) → AllByRecursion P (fold add found atoms) → AllByRecursion P found × AllByRecursion P atoms
kept P found [] h = (h, tt)
kept P found (atom ∷ atoms) h =
    let r = kept P (add found atom) atoms h in
    let q = kept_one P found atom (list_any (is_same atom) found) refl r.0 in
    (q.0, (q.1, r.1))

numbered : (Q : ℤ → Type 0) (low : ℤ) (n : ℕ) (z : ℤ) → low ≤ℤ z → z <ℤ (low +ℤ pos n) → AllByRecursion Q (numbers_from low n) → Q z
numbered Q low zero z l h all = absurd (omega (arith, ints))
numbered Q low (suc n) z l h all =
    by_lt_z low z (λ above. numbered Q (low +ℤ pos 1) n z (omega (arith, ints)) (omega (arith, ints)) all.1) (λ below. let e : low ≡ z = omega (arith, ints) in subst Q e all.0)

-- of the values that are put in, one makes of the coefficient what the memory's value makes
chosen_if : (Q : ℤ → Type 0) (c : ℤ) (memory : Memory) (z : ℤ) (b : Bool) → int_eq c (pos 0) ≡ b → IsInMemory memory z → AllByRecursion Q (if b then pos 0 ∷ [] else numbers_from memory.lo (range_size memory)) → (w : ℤ) × Q w × (c *ℤ w ≡ c *ℤ z)
chosen_if Q c memory z true e r h =
    let zero_is : c ≡ pos 0 = (Decides-int_eq c (pos 0)).0 e in
    let same : pos 0 *ℤ pos 0 ≡ pos 0 *ℤ z = omega (arith, ints) in
    (pos 0, h.0, (λ i. zero_is i *ℤ pos 0) ∙ same ∙ sym (λ i. zero_is i *ℤ z))
chosen_if Q c memory z false e r h = let low = r.0 in let high = r.1 in (z, numbered Q memory.lo (range_size memory) z low (omega (arith, ints)) h, refl)

summed : (cs values others : List ℤ) (w z : ℤ) → get_or cs 0 (pos 0) *ℤ w ≡ get_or cs 0 (pos 0) *ℤ z → sum_of_products (drop 1 cs) values ≡ sum_of_products (drop 1 cs) others → sum_of_products cs (w ∷ values) ≡ sum_of_products cs (z ∷ others)
summed [] values others w z e h = refl
summed (c ∷ cs) values others w z e h = λ i. e i +ℤ h i

-- some valuation makes of the coefficients what the memories' values make
matching : (P : List ℤ → Type 0) (cs : List ℤ) (memories : List Memory) (values : List ℤ) → AllZip IsInMemory memories values → AllByRecursion P (valuations cs memories) → (v : List ℤ) × P v × (sum_of_products cs v ≡ sum_of_products cs values)
matching P cs [] [] r h = ([], h.0, refl)
matching P cs [] (z ∷ values) r h = absurd r
matching P cs (memory ∷ memories) [] r h = absurd r
matching P cs (memory ∷ memories) (z ∷ values) r h =
    let each = parts P (λ w. map (λ v. w ∷ v) (valuations (drop 1 cs) memories)) (values_of (get_or cs 0 (pos 0)) memory) h in
    let one = chosen_if (λ w. AllByRecursion P (map (λ v. w ∷ v) (valuations (drop 1 cs) memories))) (get_or cs 0 (pos 0)) memory z (int_eq (get_or cs 0 (pos 0)) (pos 0)) refl r.0 each in
    let rest = matching (λ v. P (one.0 ∷ v)) (drop 1 cs) memories values r.1 (unmap P (λ v. one.0 ∷ v) (valuations (drop 1 cs) memories) one.1) in
    (one.0 ∷ rest.0, rest.1, summed cs rest.0 values one.0 z one.2 rest.2)

truth_on : (comparison : Comparison) (x v values : List ℤ) → sum_of_products comparison.form.memory v ≡ sum_of_products comparison.form.memory values → truth_of comparison x v ≡ truth_of comparison x values
truth_on comparison x v values e = ap (λ z. relates comparison.relation (sum_of_products comparison.form.inputs x +ℤ z +ℤ comparison.form.constant)) e

abbrev Alike : List ℤ → List ℤ → Inequality → Type 0
Alike x y atom = says atom x ≡ says atom y

comparison_alike : (x y : List ℤ) (memories : List Memory) (values : List ℤ) → AllZip IsInMemory memories values → (comparison : Comparison) → AllByRecursion (Alike x y) (atoms_over memories comparison) → truth_of comparison x values ≡ truth_of comparison y values
comparison_alike x y memories values r comparison h =
    let each = parts (Alike x y) (atoms_of_comparison comparison) (valuations comparison.form.memory memories) h in
    let m = matching (λ v. AllByRecursion (Alike x y) (atoms_of_comparison comparison v)) comparison.form.memory memories values r each in
    sym (truth_on comparison x m.0 values m.2) ∙ atoms-decide comparison m.0 x y (All-from_recursion (Alike x y) (atoms_of_comparison comparison m.0) m.1) ∙ truth_on comparison y m.0 values m.2

abbrev AreAlike : List ℤ → List ℤ → List Memory → Comparison → Type 0
AreAlike x y memories comparison = AllByRecursion (Alike x y) (atoms_over memories comparison)

guard_alike : (x y : List ℤ) (memories : List Memory) (values : List ℤ) → AllZip IsInMemory memories values → (guard : Option (Tree Comparison)) → AllByRecursion (AreAlike x y memories) (option_map_or comparisons_of guard []) → option_map_or (λ g. truth_of_guard g x values) guard true ≡ option_map_or (λ g. truth_of_guard g y values) guard true
guard_alike x y memories values r None h = refl
guard_alike x y memories values r (Some guard) h =
    truth_of_guard-same guard x y values (All-from_recursion _ (comparisons_of guard) (weaker (AreAlike x y memories) (λ q. truth_of q x values ≡ truth_of q y values) (comparisons_of guard) (comparison_alike x y memories values r) h))

-- vectors on which all atoms agree lead to the same configuration
pub next_of-atoms : (chart : Chart) (cuts : List Comparison) (c : Configuration) (x y : List ℤ) → IsConfiguration chart c → All (λ atom. says atom x ≡ says atom y) (atoms_in chart cuts) → next_of chart c x ≡ next_of chart c y
next_of-atoms chart cuts c x y is all =
    let added = kept (Alike x y) [] (flat_map (atoms_over chart.memories) (guard_comparisons chart ++ cuts)) (recursion_from_All (Alike x y) (atoms_in chart cuts) all) in
    let each = parts (Alike x y) (atoms_over chart.memories) (guard_comparisons chart ++ cuts) added.1 in
    let guards = parts (AreAlike x y chart.memories) comparisons_on chart.transitions (front (AreAlike x y chart.memories) (guard_comparisons chart) cuts each) in
    next_of-alike chart c x y (All-from_recursion (λ t. is_guard_true x c.memory t ≡ is_guard_true y c.memory t) chart.transitions
    (weaker (λ t. AllByRecursion (AreAlike x y chart.memories) (comparisons_on t)) (λ t. is_guard_true x c.memory t ≡ is_guard_true y c.memory t) chart.transitions
    (λ t h. guard_alike x y chart.memories c.memory is.values.memory t.guard h) guards))

patterned : (atoms : List Atom) (x y : List ℤ) → pattern_of atoms x ≡ pattern_of atoms y → AllByRecursion (Alike x y) (map inequality_of atoms)
patterned [] x y e = tt
patterned (atom ∷ atoms) x y e = (ap (λ l. get_or l 0 false) e, patterned atoms x y (ap (drop 1) e))

answered : (chart : Chart) (x y : List ℤ) → ((c : Configuration) → IsConfiguration chart c → next_of chart c x ≡ next_of chart c y) → (u v : Word) (c : Configuration) → IsConfiguration chart c → answer_from (plan_of_chart chart) c (u ++ x ∷ v) ≡ answer_from (plan_of_chart chart) c (u ++ y ∷ v)
answered chart x y same [] v c is = λ i. (same c is i).outputs ∷ answer_from (plan_of_chart chart) (same c is i) v
answered chart x y same (a ∷ u) v c is = λ i. reply_of chart c a ∷ answered chart x y same u v (next_of chart c a) (IsConfiguration-next chart c a is) i

-- vectors with one pattern lead to the same configuration
pub next_of-patterns : (chart : Chart) (cuts : List Comparison) (atoms : List Atom) (c : Configuration) (x y : List ℤ) → map inequality_of atoms ≡ atoms_in chart cuts → pattern_of atoms x ≡ pattern_of atoms y → IsConfiguration chart c → next_of chart c x ≡ next_of chart c y
next_of-patterns chart cuts atoms c x y are e is =
    next_of-atoms chart cuts c x y is (subst (All (Alike x y)) are (All-from_recursion (Alike x y) (map inequality_of atoms) (patterned atoms x y e)))

-- vectors with one pattern act alike
pub patterns-alike : (chart : Chart) (cuts : List Comparison) (atoms : List Atom) (s : VectorSet) (x y : List ℤ) → map inequality_of atoms ≡ atoms_in chart cuts → pattern_of atoms x ≡ pattern_of atoms y → ActsLike s (plan_of_chart chart) x y
patterns-alike chart cuts atoms s x y are e u v is_u is_v =
    answered chart x y (λ c is. next_of-patterns chart cuts atoms c x y are e is) u v (start_of chart) (IsConfiguration-start chart)

-- so do the members of a class
pub members-alike : (chart : Chart) (cuts : List Comparison) (r : Partition) (s : VectorSet) → map inequality_of r.atoms ≡ atoms_in chart cuts → MembersActAlike s r (plan_of_chart chart)
members-alike chart cuts r s are class there x y in_x in_y = patterns-alike chart cuts r.atoms s x y are (in_x.1 ∙ sym in_y.1)
