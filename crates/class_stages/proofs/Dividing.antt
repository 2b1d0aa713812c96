-- Why the classes of a chart and cuts are made, and why they are not.
use Rattle.std.proofs.Common.{◌≡◌, ℕ, ◌<◌, ℤ, Bool, true, false, ◌||◌, List, [], ◌∷◌, ◌++◌, length, map, Ok, Err, refl, sym, ◌∙◌, ap, subst, arith}
use Rattle.std.specs.List.{list_any, All}
use Rattle.std.proofs.lemmas.Bool.{false≢true}
use Rattle.std.proofs.lemmas.List.Elements.{All-weaker, All-head}
use Rattle.lin_form.specs.Atom.{inequality_of}
use Rattle.lin_form.specs.Inequality.{says}
use Rattle.lin_form.specs.Signature.{ranges_of}
use Rattle.lin_form.specs.declared.atom.Atom.{Atom}
use Rattle.lin_form.specs.declared.form.Comparison.{Comparison}
use Rattle.lin_form.specs.declared.literal.Literal.{Literal}
use Rattle.input_classes.specs.Partition.{Partition, HasMorePatterns, pattern_of}
use Rattle.input_classes.specs.VectorSet as set
use Rattle.linear_refuter.specs.Answer.{HasNone}
use Rattle.class_split.specs.Split.{IsPartitionOf as IsSplitInto, IsSplitFault}
use Rattle.class_split.specs.declared.splitting.SplitError.{SplitError}
use Rattle.class_split.specs.declared.splitting.SplitError.TheVariants as split_error
use Rattle.chart_model.specs.Box.{IsInBox}
use Rattle.chart_model.specs.declared.chart.Chart.{Chart}
use Rattle.guard_atoms.specs.Atoms.{atoms_in, guard_comparisons, has_large_coefficient, has_many_atoms, is_large}
use Rattle.guard_atoms.specs.Answers.{AreAtomsOf, IsAtomFault, AreAssumedOf, IsAssumedFault}
use Rattle.guard_atoms.specs.declared.error.AtomError.{AtomError}
use Rattle.guard_atoms.specs.declared.error.AtomError.TheVariants as atom_error
use Rattle.command_stages.specs.declared.stop.Departure.TheVariants.{NoMemory}
use Rattle.command_stages.specs.declared.stop.Stop.TheVariants.{Departed}
use Rattle.command_stages.specs.Stage.{Made}
use Rattle.test_world.specs.Shelf.{ShelfState}
use Rattle.command_stages.proofs.Stages.{made_then, made_stop, made_is, made_unless, made_refusal, made_unknown}
use Rattle.class_stages.specs.Classes.{IsBoxEmpty, truths_on, HasMoreClasses, IsChartPartition, ClassesOver}
use Rattle.class_stages.specs.inside.Stops.{stop_of_atoms, stop_of_split}

or_later : (a b c : Bool) → (b ≡ true → c ≡ true) → (a || b) ≡ true → (a || c) ≡ true
or_later true b c k h = refl
or_later false b c k h = k h

-- a large coefficient among assumptions and guards is one beside cuts too
large_more : (assumed guards cuts : List Comparison) → list_any is_large (assumed ++ guards ++ []) ≡ true → list_any is_large (assumed ++ guards ++ cuts) ≡ true
large_more [] [] cuts h = absurd cc
large_more [] (g ∷ guards) cuts h = or_later (is_large g) (list_any is_large (guards ++ [])) (list_any is_large (guards ++ cuts)) (large_more [] guards cuts) h
large_more (a ∷ assumed) guards cuts h = or_later (is_large a) (list_any is_large (assumed ++ guards ++ [])) (list_any is_large (assumed ++ guards ++ cuts)) (large_more assumed guards cuts) h

map_says : (x : List ℤ) (atoms : List Atom) → map (λ atom. says atom x) (map inequality_of atoms) ≡ pattern_of atoms x
map_says x [] = refl
map_says x (atom ∷ atoms) = ap (λ truths. says (inequality_of atom) x ∷ truths) (map_says x atoms)

-- the truths on a vector are its pattern
pub truths : (chart : Chart) (cuts : List Comparison) (atoms : List Atom) → map inequality_of atoms ≡ atoms_in chart cuts → (x : List ℤ) → truths_on chart cuts x ≡ pattern_of atoms x
truths chart cuts atoms e x = ap (map (λ atom. says atom x)) (sym e) ∙ map_says x atoms

-- what is known where atoms and literals are there
pub record IsKnown (chart : Chart) (cuts : List Comparison) (atoms : List Atom) (ranges : List (ℤ × ℤ)) (literals : List Literal) : Type 0 where
  pub atoms_are : AreAtomsOf chart cuts atoms
  pub literals_are : AreAssumedOf chart literals
  pub ranges_are : ranges ≡ ranges_of chart.signature.inputs

into_box : {chart : Chart} {cuts : List Comparison} {atoms : List Atom} {ranges : List (ℤ × ℤ)} {literals : List Literal} → IsKnown chart cuts atoms ranges literals → (x : List ℤ) → set.IsInBox ranges literals x → IsInBox chart x
into_box {chart} {cuts} {atoms} {ranges} {literals} known x h =
    let P : List (ℤ × ℤ) → Type 0 = λ r. set.IsInBox r literals x in
    (known.literals_are.box x).0 (subst P known.ranges_are h)

from_box : {chart : Chart} {cuts : List Comparison} {atoms : List Atom} {ranges : List (ℤ × ℤ)} {literals : List Literal} → IsKnown chart cuts atoms ranges literals → (x : List ℤ) → IsInBox chart x → set.IsInBox ranges literals x
from_box {chart} {cuts} {atoms} {ranges} {literals} known x h =
    let P : List (ℤ × ℤ) → Type 0 = λ r. set.IsInBox r literals x in
    subst P (sym known.ranges_are) ((known.literals_are.box x).1 h)

empty : {chart : Chart} {cuts : List Comparison} {atoms : List Atom} {ranges : List (ℤ × ℤ)} {literals : List Literal} → IsKnown chart cuts atoms ranges literals → HasNone literals ranges → IsBoxEmpty chart
empty known none x h = let b = from_box known x h in none x b.inside b.said

not_empty : {chart : Chart} {cuts : List Comparison} {atoms : List Atom} {ranges : List (ℤ × ℤ)} {literals : List Literal} → IsKnown chart cuts atoms ranges literals → (HasNone literals ranges → ⊥) → IsBoxEmpty chart → ⊥
not_empty known some none = some (λ x inside said. none x (into_box known x (record { inside = inside; said = said })))

many : {chart : Chart} {cuts : List Comparison} {atoms : List Atom} {ranges : List (ℤ × ℤ)} {literals : List Literal} (n : ℕ) → IsKnown chart cuts atoms ranges literals → HasMorePatterns n atoms ranges literals → HasMoreClasses n chart cuts
many {chart} {cuts} {atoms} {ranges} {literals} n known h = record {
  vectors = h.vectors;
  more = h.more;
  inside = All-weaker (set.IsInBox ranges literals) (IsInBox chart) (into_box known) h.vectors h.inside;
  different = λ i j x y p q e. h.different i j x y p q (sym (truths chart cuts atoms known.atoms_are.listed x) ∙ e ∙ truths chart cuts atoms known.atoms_are.listed y);
}

many_patterns : {chart : Chart} {cuts : List Comparison} {atoms : List Atom} {ranges : List (ℤ × ℤ)} {literals : List Literal} (n : ℕ) → IsKnown chart cuts atoms ranges literals → HasMoreClasses n chart cuts → HasMorePatterns n atoms ranges literals
many_patterns {chart} {cuts} {atoms} {ranges} {literals} n known h = record {
  vectors = h.vectors;
  more = h.more;
  inside = All-weaker (IsInBox chart) (set.IsInBox ranges literals) (from_box known) h.vectors h.inside;
  different = λ i j x y p q e. h.different i j x y p q (truths chart cuts atoms known.atoms_are.listed x ∙ e ∙ sym (truths chart cuts atoms known.atoms_are.listed y));
}

-- more patterns than some number are those of some vector
not_none : {P : List ℤ → Type 0} (n : ℕ) (vectors : List (List ℤ)) → n < length vectors → All P vectors → ((x : List ℤ) → P x → ⊥) → ⊥
not_none n [] more inside none = omega (arith, more)
not_none {P} n (x ∷ vectors) more inside none = none x (All-head P x vectors inside)

some_vector : {chart : Chart} {cuts : List Comparison} (n : ℕ) → HasMoreClasses n chart cuts → IsBoxEmpty chart → ⊥
some_vector {chart} {cuts} n h none = not_none n h.vectors h.more h.inside none

not_true : (b : Bool) → b ≡ false → b ≡ true → ⊥
not_true b f t = false≢true (sym f ∙ t)

-- there are no atoms
pub unlisted : (name : ℕ) (chart : Chart) (cuts : List Comparison) {words : List (List ℕ)} {shelf : ShelfState} (e : AtomError) → IsAtomFault chart cuts e → Made (ClassesOver name chart cuts) words shelf shelf (Err (stop_of_atoms e))
unlisted name chart cuts atom_error.Coefficient h = made_stop _ _ (made_refusal _ _ h)
unlisted name chart cuts atom_error.TooMany h = made_then _ _ (made_unless _ _ (not_true (has_large_coefficient chart cuts) h.0)) (made_stop _ _ (made_refusal _ _ h.1))
unlisted name chart cuts atom_error.Memory h = made_stop _ _ (made_unknown _ _)

-- there are no literals
pub unassumed : (name : ℕ) (chart : Chart) (cuts : List Comparison) {words : List (List ℕ)} {shelf : ShelfState} (e : AtomError) → IsAssumedFault chart e → Made (ClassesOver name chart cuts) words shelf shelf (Err (stop_of_atoms e))
unassumed name chart cuts atom_error.Coefficient h = made_stop _ _ (made_refusal _ _ (large_more chart.assumed (guard_comparisons chart) cuts h))
unassumed name chart cuts atom_error.TooMany h = absurd h
unassumed name chart cuts atom_error.Memory h = made_stop _ _ (made_unknown _ _)

-- the box is not divided
pub undivided : (name : ℕ) (chart : Chart) (cuts : List Comparison) {atoms : List Atom} {ranges : List (ℤ × ℤ)} {literals : List Literal} {words : List (List ℕ)} {shelf : ShelfState} → IsKnown chart cuts atoms ranges literals → (e : SplitError) → IsSplitFault atoms ranges literals e → Made (ClassesOver name chart cuts) words shelf shelf (Err (stop_of_split name e))
undivided name chart cuts known (split_error.NoInput tree) h =
    made_then _ _ (made_unless _ _ (not_true (has_large_coefficient chart cuts) known.atoms_are.small))
    (made_then _ _ (made_unless _ _ (not_true (has_many_atoms chart cuts) known.atoms_are.few))
    (made_stop _ _ (made_refusal _ _ (empty known h.none))))
undivided name chart cuts known split_error.TooMany h =
    made_then _ _ (made_unless _ _ (not_true (has_large_coefficient chart cuts) known.atoms_are.small))
    (made_then _ _ (made_unless _ _ (not_true (has_many_atoms chart cuts) known.atoms_are.few))
    (made_then _ _ (made_unless _ _ (some_vector 4096 (many 4096 known h)))
    (made_stop _ _ (made_refusal _ _ (many 4096 known h)))))
undivided name chart cuts known split_error.Memory h = made_stop _ _ (made_unknown _ _)

-- the partition of the box is that of the chart and the cuts
pub divided : (chart : Chart) (cuts : List Comparison) {atoms : List Atom} {ranges : List (ℤ × ℤ)} {literals : List Literal} {r : Partition} → IsKnown chart cuts atoms ranges literals → IsSplitInto atoms ranges literals r → IsChartPartition chart cuts r
divided chart cuts {atoms} {ranges} {literals} {r} known h =
    let P : List Literal → Type 0 = λ l. (x : List ℤ) → (set.IsIn (set.box_of chart.signature l) x → IsInBox chart x) × (IsInBox chart x → set.IsIn (set.box_of chart.signature l) x) in
    record {
      atoms = ap (map inequality_of) h.same_atoms ∙ known.atoms_are.listed;
      ranges = h.same_ranges ∙ known.ranges_are;
      box = subst P (sym h.same_assumed) known.literals_are.box;
      exact = h.exact.exact;
    }

pub made_classes : (name : ℕ) (chart : Chart) (cuts : List Comparison) {atoms : List Atom} {ranges : List (ℤ × ℤ)} {literals : List Literal} {r : Partition} {words : List (List ℕ)} {shelf : ShelfState} → IsKnown chart cuts atoms ranges literals → IsSplitInto atoms ranges literals r → Made (ClassesOver name chart cuts) words shelf shelf (Ok r)
made_classes name chart cuts known h =
    made_then _ _ (made_unless _ _ (not_true (has_large_coefficient chart cuts) known.atoms_are.small))
    (made_then _ _ (made_unless _ _ (not_true (has_many_atoms chart cuts) known.atoms_are.few))
    (made_then _ _ (made_unless _ _ (not_empty known h.some))
    (made_then _ _ (made_unless _ _ (λ more. h.not_many (many_patterns 4096 known more)))
    (made_is _ (divided chart cuts known h)))))

-- no memory for the ranges
pub unbounded : (name : ℕ) (chart : Chart) (cuts : List Comparison) {words : List (List ℕ)} {shelf : ShelfState} → Made (ClassesOver name chart cuts) words shelf shelf (Err (Departed NoMemory))
unbounded name chart cuts = made_stop _ _ (made_unknown _ _)
