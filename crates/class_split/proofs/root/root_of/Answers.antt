use Rattle.std.proofs.Common.{rules, refl}
use Rattle.class_split.proofs.Whole.{IsStart-from}
use Rattle.class_split.proofs.root.root_of.Goals as goal

pub returns-in-Some : goal.returns-in-Some
returns-in-Some c =
    let found = c.in-Some.ensures in
    IsStart-from c.args.atoms.now c.args.bounds.now c.args.assumed.now _ c.in-Some.found c.requires.few c.requires.atoms c.in_ok-region.ensures found refl refl (search rules)

pub returns-in-Refuted : goal.returns-in-Refuted
returns-in-Refuted c =
    let k = rw (c.in-Refuted.is) at c.in_ok-tree-in-None.ensures in
    record { refuted = k.0; none = λ x i s. c.in-None.ensures x (c.in_ok-region.ensures.into x (record { inside = i; said = s })) }

pub unreachable-requires : goal.unreachable-requires
unreachable-requires c =
    let k = rw (c.in-Point.is) at c.in_ok-tree-in-None.ensures in
    let none = c.in-None.ensures in
    none _ (c.in_ok-region.ensures.into _ (record { inside = k.0; said = k.1 }))
