use Rattle.std.proofs.Common.{◌≡◌, ◌≤◌, ◌∙◌, ℤ, List, Bool, length, take, ap, sym, subst, arith}
use Rattle.std.specs.Prelude.{All, Contains, Some, slice_get}
use Rattle.std.proofs.lemmas.List.{length-map}
use Rattle.lin_form.specs.Atom.{atom_truth}
use Rattle.lin_form.specs.declared.atom.Atom.{Atom}
use Rattle.lin_form.proofs.CallerLemmas.{length-IsInRanges}
use Rattle.input_classes.specs.Order.{AreAscending}
use Rattle.input_classes.specs.Partition.{Partition, pattern_of, patterns}
use Rattle.input_classes.specs.VectorSet.{IsInBox}
use Rattle.input_classes.specs.declared.class.Class.{Class}
use Rattle.class_split.specs.ExactPartition.{IsExactPartition}
use Rattle.class_split.specs.inside.Node.{AreTruths}
use Rattle.class_split.specs.inside.Places.{patterns_of}
use Rattle.class_split.proofs.Places.{below_length, patterns_as_long}
use Rattle.class_split.proofs.Whole.{truths_list}
use Rattle.class_split.proofs.partition.Partition.class_of.Goals as goal

-- the truths that were computed are the vector's pattern
is_pattern : (atoms same : List Atom) (vector : List ℤ) (truths : List Bool) → same ≡ atoms → length atoms ≤ 128 → AreTruths (length same) same vector truths → take (length same) truths ≡ pattern_of atoms vector
is_pattern atoms same vector truths e short t =
    let n = ap length e in
    truths_list same vector truths (omega (arith, n, short, t.places)) t.truths ∙ ap (λ as'. pattern_of as' vector) e

there : (r : Partition) (classes : List Class) (p : List Bool) (vector : List ℤ) → IsExactPartition r → classes ≡ r.classes → p ≡ pattern_of r.atoms vector → IsInBox r.ranges r.assumed vector → Contains (patterns_of classes) p
there r classes p vector h e f i =
    let Q : List Class → Type 0 = λ cs. Contains (patterns_of cs) p in
    let R : List Bool → Type 0 = λ q. Contains (patterns r) q in
    subst Q (sym e) (subst R (sym f) (h.exact.complete vector i))

as_long : (r : Partition) (classes : List Class) (p : List Bool) (vector : List ℤ) → IsExactPartition r → classes ≡ r.classes → p ≡ pattern_of r.atoms vector → All (λ (c : Class). length c.pattern ≡ length p) classes
as_long r classes p vector h e f =
    let n = sym (length-map r.atoms (λ atom. atom_truth atom vector)) ∙ ap length (sym f) in
    let Q : List Class → Type 0 = λ cs. All (λ (c : Class). length c.pattern ≡ length p) cs in
    subst Q (sym e) (patterns_as_long r (length p) n h.exact.witnessed)

short : (atoms : List Atom) (r : Partition) → atoms ≡ r.atoms → length atoms ≤ 128 → length r.atoms ≤ 128
short atoms r e h = let n = ap length e in omega (arith, n, h)

pub truths_of-truths-requires-clause-width : goal.truths_of-truths-requires-clause-width
truths_of-truths-requires-clause-width c =
    let r = c.args.self.now in
    let n = length-IsInRanges r.ranges c.args.vector.now c.requires.inside in
    let e = c.as_slice-atoms.ensures.value ∙ c.atoms.ensures.value in
    let P : List Atom → Type 0 = λ as'. All (λ atom. length atom.coefficients ≡ length c.args.vector.now) as' in
    subst P (sym e) (λ k d h. c.atoms.ensures.exact.shaped k d h ∙ n)

pub place_of-place-requires-clause-ascending : goal.place_of-place-requires-clause-ascending
place_of-place-requires-clause-ascending c =
    let Q : List Class → Type 0 = λ cs. AreAscending (patterns_of cs) in
    subst Q (sym c.classes.ensures.value) c.classes.ensures.exact.exact.ascending

pub place_of-place-requires-clause-there : goal.place_of-place-requires-clause-there
place_of-place-requires-clause-there c =
    let r = c.args.self.now in
    let limit = short c.atoms.result.now r c.atoms.ensures.value c.as_slice-atoms.ensures.different.limit in
    let e = c.as_slice-atoms.ensures.value ∙ c.atoms.ensures.value in
    let p = is_pattern r.atoms c.as_slice-atoms.result.now c.args.vector.now c.truths_of-truths.result e limit c.truths_of-truths.ensures in
    there r c.classes.result.now _ c.args.vector.now c.classes.ensures.exact c.classes.ensures.value p c.requires

pub place_of-place-requires-clause-same : goal.place_of-place-requires-clause-same
place_of-place-requires-clause-same c =
    let r = c.args.self.now in
    let limit = short c.atoms.result.now r c.atoms.ensures.value c.as_slice-atoms.ensures.different.limit in
    let e = c.as_slice-atoms.ensures.value ∙ c.atoms.ensures.value in
    let p = is_pattern r.atoms c.as_slice-atoms.result.now c.args.vector.now c.truths_of-truths.result e limit c.truths_of-truths.ensures in
    as_long r c.classes.result.now _ c.args.vector.now c.classes.ensures.exact c.classes.ensures.value p

pub overflow_cast-result : goal.overflow_cast-result
overflow_cast-result c =
    let r = c.args.self.now in
    let b = below_length (patterns_of c.classes.result.now) c.place_of-place.result _ c.place_of-place.ensures in
    let n = length-map c.classes.result.now (λ (k : Class). k.pattern) in
    let m = ap length c.classes.ensures.value in
    omega (arith, b, n, m, c.classes.ensures.exact.few)

pub returns : goal.returns
returns c =
    let r = c.args.self.now in
    let limit = short c.atoms.result.now r c.atoms.ensures.value c.as_slice-atoms.ensures.different.limit in
    let e = c.as_slice-atoms.ensures.value ∙ c.atoms.ensures.value in
    let p = is_pattern r.atoms c.as_slice-atoms.result.now c.args.vector.now c.truths_of-truths.result e limit c.truths_of-truths.ensures in
    let q = take (length c.as_slice-atoms.result.now) c.truths_of-truths.result in
    let Q : List Class → Type 0 = λ cs. slice_get (patterns_of cs) c.place_of-place.result ≡ Some q in
    subst Q c.classes.ensures.value c.place_of-place.ensures ∙ ap Some p
