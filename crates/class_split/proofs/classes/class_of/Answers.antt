use Rattle.std.proofs.Common.{◌∙◌}
use Rattle.std.specs.Prelude.{IsTrue}
use Rattle.input_classes.specs.declared.class.Class.{Class}
use Rattle.class_split.proofs.Whole.{IsClassOf-from, true_is}
use Rattle.class_split.proofs.classes.class_of.Goals as goal

pub returns-then-leaf : goal.returns-then-leaf
returns-then-leaf c =
    let leaf = c.args.leaf.now in
    let class : Class = record { pattern = c.from_vec-pattern.result; witness = c.in_ok-vector.vector } in
    let e = c.in_ok-vector.ensures.cases in
    let t : IsTrue leaf.is_least = true_is leaf.is_least c.if-leaf.true in
    IsClassOf-from c.args.atoms.now leaf class c.requires.short c.requires.leaf (c.from_vec-pattern.ensures ∙ c.in_ok-truths.ensures.items_if_clones_equal (λ x y h. h))
    (rw e c.requires.leaf.here) (rw e (c.requires.leaf.least t))

pub least_from-witness-requires-clause-inside : goal.least_from-witness-requires-clause-inside
least_from-witness-requires-clause-inside c = rw (c.in_ok-vector.ensures.cases) c.requires.leaf.here.inside

pub least_from-witness-requires-clause-said : goal.least_from-witness-requires-clause-said
least_from-witness-requires-clause-said c = rw (c.in_ok-vector.ensures.cases, c.as_slice.ensures.value) c.requires.leaf.here.said

pub returns : goal.returns
returns c =
    let leaf = c.args.leaf.now in
    let class : Class = record { pattern = c.from_vec-pattern.result; witness = c.least_from-witness.result } in
    let f = rw (c.as_slice.ensures.value) at c.least_from-witness.ensures in
    IsClassOf-from c.args.atoms.now leaf class c.requires.short c.requires.leaf (c.from_vec-pattern.ensures ∙ c.in_ok-truths.ensures.items_if_clones_equal (λ x y h. h))
    (record { inside = f.inside; said = f.said }) (λ x h. f.least x h.inside h.said)
