use Rattle.linear_refuter.proofs.TightParts.{HasNone-from, HasNone-sum, IsShaped-tight, IsTightened-then, within_in}
use Rattle.linear_refuter.proofs.seeking.look_at.Goals as goal

pub corner-requires : goal.corner-requires
corner-requires c = IsShaped-tight c.args.literals.now c.args.part.now c.in-Some.tight c.requires c.in-Some.ensures

pub is_refuted_by-requires : goal.is_refuted_by-requires
is_refuted_by-requires c = IsShaped-tight c.args.literals.now c.args.part.now c.in-Some.tight c.requires c.in-Some.ensures

pub zoomed-near-requires : goal.zoomed-near-requires
zoomed-near-requires c = IsShaped-tight c.args.literals.now c.args.part.now c.in-Some.tight c.requires c.in-Some.ensures

pub corner-requires-2 : goal.corner-requires-2
corner-requires-2 c =
    IsShaped-tight c.args.literals.now c.args.part.now c.zoomed-near.result c.requires
    (IsTightened-then c.args.literals.now c.args.part.now c.in-Some.tight c.zoomed-near.result c.in-Some.ensures c.zoomed-near.ensures)

pub point-requires : goal.point-requires
point-requires c =
    IsShaped-tight c.args.literals.now c.args.part.now c.zoomed-near.result c.requires
    (IsTightened-then c.args.literals.now c.args.part.now c.in-Some.tight c.zoomed-near.result c.in-Some.ensures c.zoomed-near.ensures)

pub returns-in-Some-corner : goal.returns-in-Some-corner
returns-in-Some-corner c =
    let k = c.in-Some-corner.ensures in
    (within_in c.in-Some.tight c.args.part.now c.in-Some-corner.vector c.in-Some.ensures.within k.inside, k.said)

pub returns-then-is_refuted_by : goal.returns-then-is_refuted_by
returns-then-is_refuted_by c =
    HasNone-from c.args.literals.now c.args.part.now c.in-Some.tight c.in-Some.ensures (HasNone-sum c.args.literals.now c.in-Some.tight _ c.if-is_refuted_by.ensures)

pub returns-in-Some-corner-2 : goal.returns-in-Some-corner-2
returns-in-Some-corner-2 c =
    let k = c.in-Some-corner-2.ensures in
    let t = IsTightened-then c.args.literals.now c.args.part.now c.in-Some.tight c.zoomed-near.result c.in-Some.ensures c.zoomed-near.ensures in
    (within_in c.zoomed-near.result c.args.part.now c.in-Some-corner-2.vector t.within k.inside, k.said)

pub returns-in-Some-point : goal.returns-in-Some-point
returns-in-Some-point c =
    let k = c.in-Some-point.ensures in
    let t = IsTightened-then c.args.literals.now c.args.part.now c.in-Some.tight c.zoomed-near.result c.in-Some.ensures c.zoomed-near.ensures in
    (within_in c.zoomed-near.result c.args.part.now c.in-Some-point.vector t.within k.0, k.1)

pub returns : goal.returns
returns c =
    (IsTightened-then c.args.literals.now c.args.part.now c.in-Some.tight c.zoomed-near.result c.in-Some.ensures c.zoomed-near.ensures, c.in_default-corner-2.ensures)
