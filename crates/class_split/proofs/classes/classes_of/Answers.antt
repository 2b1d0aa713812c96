use Rattle.std.proofs.Common.{get_or, length, subst, sym, take, ◌++◌, [], ◌∷◌, List}
use Rattle.std.specs.List.{AllZip}
use Rattle.std.proofs.lemmas.List.{take_more, take_all}
use Rattle.class_split.specs.declared.node.Node.{Node}
use Rattle.class_split.specs.inside.Node.{IsClassOf, IsNode}
use Rattle.class_split.proofs.Whole.{zip_push}
use Rattle.class_split.proofs.classes.classes_of.Goals as goal

pub loop-index-init : goal.loop-index-init
loop-index-init c = rw (c.in_ok-classes.ensures.items) tt

pub loop-index-preserved : goal.loop-index-preserved
loop-index-preserved c =
    let leaves = c.args.leaves.now in
    let i = c.loop-index.index in
    let leaf = c.index-leaves-index.result in
    let e = take_more leaves i leaf c.loop-index-test.true in
    let R = IsClassOf c.args.atoms.now in
    let z = zip_push R (take i leaves) c.loop-index.classes.items (get_or leaves i leaf) c.in_ok-class_of.field-0 c.loop-index.invariant
    (let P : Node → Type 0 = λ l. R l c.in_ok-class_of.field-0 in subst P c.index-leaves-index.is c.in_ok-class_of.ensures) in
    rw (c.in_ok-push.ensures.items) (let P : List Node → Type 0 = λ ls. AllZip R ls (c.loop-index.classes.items ++ c.in_ok-class_of.field-0 ∷ []) in subst P (sym e) z)

pub class_of-requires-clause-leaf : goal.class_of-requires-clause-leaf
class_of-requires-clause-leaf c =
    let P : Node → Type 0 = λ l. IsNode c.args.atoms.now (length c.args.atoms.now) l in
    subst P (sym c.index-leaves-index.is) (c.requires.leaves c.loop-index.index c.index-leaves-index.result c.loop-index-test.true)

pub returns : goal.returns
returns c =
    let leaves = c.args.leaves.now in
    let e = take_all c.loop-index.index leaves c.loop-index-test.false in
    let P : List Node → Type 0 = λ ls. AllZip (IsClassOf c.args.atoms.now) ls c.loop-index.classes.items in
    subst P e c.loop-index.invariant
