use Rattle.std.proofs.Common.{arith, true}
use Rattle.input_classes.specs.Partition.{Partition}
use Rattle.class_split.proofs.Whole.{HasMorePatterns-from, IsExactPartition-from, leaf_nodes}
use Rattle.class_split.proofs.splitting.classes.Goals as goal

pub add_leaves-requires : goal.add_leaves-requires
add_leaves-requires c =
    let s = rw (c.in-Start.is) at c.in_ok-tree.ensures in
    let limit = rw (← c.as_slice-atoms.ensures.value) at c.as_slice-atoms.ensures.different.limit in
    record { short = limit; first = omega arith; node = s.root }

pub returns-in-Refuted : goal.returns-in-Refuted
returns-in-Refuted c = rw (c.in-Refuted.is) at c.in_ok-tree.ensures

pub returns-then-not-branch : goal.returns-then-not-branch
returns-then-not-branch c =
    let s = rw (c.in-Start.is) at c.in_ok-tree.ensures in
    let a = rw (c.if-not-branch.true, c.new-leaves.ensures.items) at c.in_ok-add_leaves-in-Start.ensures in
    rw (c.as_slice-atoms.ensures.value) at (HasMorePatterns-from c.as_slice-atoms.result.now c.args.bounds.now c.args.assumed.now c.in-Start.node _ s a)

pub classes_of-requires-clause-leaves : goal.classes_of-requires-clause-leaves
classes_of-requires-clause-leaves c =
    let a = rw (c.if-not-branch.false, c.new-leaves.ensures.items) at c.in_ok-add_leaves-in-Start.ensures in
    rw (c.as_slice.ensures.value) (leaf_nodes c.as_slice-atoms.result.now c.in-Start.node.region true c.add_leaves.new.leaves.items a)

pub returns-in_ok-classes_of-in-Start : goal.returns-in_ok-classes_of-in-Start
returns-in_ok-classes_of-in-Start c =
    let s = rw (c.in-Start.is, c.as_slice-atoms.ensures.value) at c.in_ok-tree.ensures in
    let a = rw (c.if-not-branch.false, c.new-leaves.ensures.items, c.as_slice-atoms.ensures.value) at c.in_ok-add_leaves-in-Start.ensures in
    let z = rw (c.as_slice.ensures.value, c.as_slice-atoms.ensures.value) at c.in_ok-classes_of-in-Start.ensures in
    let r : Partition = record { atoms = c.args.atoms.now; ranges = c.args.bounds.now; assumed = c.args.assumed.now; classes = c.in_ok-classes_of-in-Start.field-0.items } in
    IsExactPartition-from r c.in-Start.node c.add_leaves.new.leaves.items c.requires.atoms c.requires.shaped c.requires.few s a z
