use Rattle.std.proofs.Common.{rules, arith, ◌<◌, length, subst, Bool, true, false, refl, ◌≡◌}
use Rattle.class_split.specs.declared.node.Node.{Node}
use Rattle.class_split.specs.inside.Node.{Adds}
use Rattle.class_split.proofs.Leaves.{Adds-leaf, Adds-same, Adds-stop, Adds-two, all_results}
use Rattle.class_split.proofs.Nodes.{IsNode-skipped}
use Rattle.class_split.proofs.tree.+add_leaves.Goals as goal

pub returns-then-len-gt-MOST_CLASSES : goal.returns-then-len-gt-MOST_CLASSES
returns-then-len-gt-MOST_CLASSES t c =
    let n = c.skipped-index.result.0 in
    let next : Node = record { region = c.args.node.region; vector = c.args.node.vector; is_least = c.args.node.is_least; pattern = c.skipped-index.result.1 } in
    let node = IsNode-skipped c.args.atoms.now c.args.first c.args.node next n refl refl refl c.requires.node c.skipped-index.ensures in
    let new = c.push.new.self.items in
    let size : length new ≡ c.len.result = search (rules, c.len.ensures) in
    Adds-leaf c.args.atoms.now next n false c.args.leaves.now.items new c.if-index-atoms.true node c.in_ok-push.ensures.items (omega (arith, size, c.if-len-gt-MOST_CLASSES.true))

pub returns-then-index-atoms : goal.returns-then-index-atoms
returns-then-index-atoms t c =
    let n = c.skipped-index.result.0 in
    let next : Node = record { region = c.args.node.region; vector = c.args.node.vector; is_least = c.args.node.is_least; pattern = c.skipped-index.result.1 } in
    let node = IsNode-skipped c.args.atoms.now c.args.first c.args.node next n refl refl refl c.requires.node c.skipped-index.ensures in
    let new = c.push.new.self.items in
    let size : length new ≡ c.len.result = search (rules, c.len.ensures) in
    Adds-leaf c.args.atoms.now next n true c.args.leaves.now.items new c.if-index-atoms.true node c.in_ok-push.ensures.items (omega (arith, size, c.if-len-gt-MOST_CLASSES.false))

pub returns-in-One : goal.returns-in-One
returns-in-One t c =
    let atoms = c.args.atoms.now in
    let s = rw (c.in-One.is) at c.in_ok-next.ensures in
    all_results (λ done. Adds atoms c.in-One.next.region done c.args.leaves.now.items c.add_leaves.new.leaves.items) (λ done. Adds atoms c.args.node.region done c.args.leaves.now.items c.add_leaves.new.leaves.items) c.add_leaves.result
    (λ done a. Adds-same atoms c.args.node.region c.in-One.next.region done c.args.leaves.now.items c.add_leaves.new.leaves.items s.1 a) c.add_leaves.ensures

pub returns-then-not-branch : goal.returns-then-not-branch
returns-then-not-branch t c =
    let atoms = c.args.atoms.now in
    let n = c.skipped-index.result.0 in
    let s = rw (c.in-Two.is) at c.in_ok-next.ensures in
    let P : Bool → Type 0 = λ b. Adds atoms c.in-Two.low.region b c.args.leaves.now.items c.add_leaves-in-Two.new.leaves.items in
    let a = subst P c.if-not-branch.true c.in_ok-add_leaves-in-Two.ensures in
    let h : n < length atoms = omega (arith, c.skipped-index.ensures.limit, c.if-index-atoms.false) in
    Adds-stop atoms n c.args.node.region c.in-Two.low c.args.leaves.now.items c.add_leaves-in-Two.new.leaves.items h s.0 a

pub returns-else-not-branch : goal.returns-else-not-branch
returns-else-not-branch t c =
    let atoms = c.args.atoms.now in
    let n = c.skipped-index.result.0 in
    let s = rw (c.in-Two.is) at c.in_ok-next.ensures in
    let P : Bool → Type 0 = λ b. Adds atoms c.in-Two.low.region b c.args.leaves.now.items c.add_leaves-in-Two.new.leaves.items in
    let a = subst P c.if-not-branch.false c.in_ok-add_leaves-in-Two.ensures in
    let h : n < length atoms = omega (arith, c.skipped-index.ensures.limit, c.if-index-atoms.false) in
    let next : Node = record { region = c.args.node.region; vector = c.args.node.vector; is_least = c.args.node.is_least; pattern = c.skipped-index.result.1 } in
    let node = IsNode-skipped atoms c.args.first c.args.node next n refl refl refl c.requires.node c.skipped-index.ensures in
    let old = c.args.leaves.now.items in
    let mid = c.add_leaves-in-Two.new.leaves.items in
    let new = c.add_leaves-in-Two-2.new.leaves.items in
    all_results (λ done. Adds atoms c.in-Two.high.region done mid new) (λ done. Adds atoms c.args.node.region done old new) c.add_leaves-in-Two-2.result
    (λ done b. Adds-two atoms n next c.in-Two.low c.in-Two.high done old mid new h node s.0 s.1 a b) c.add_leaves-in-Two-2.ensures
