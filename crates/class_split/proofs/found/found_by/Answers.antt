use Rattle.linear_refuter.proofs.CallerLemmas.{HasNone-from, IsShaped-tight, within_in}
use Rattle.class_split.proofs.found.found_by.Goals as goal

pub corner-requires : goal.corner-requires
corner-requires c = IsShaped-tight c.args.literals.now c.args.part.now c.in-Some.tight c.requires c.in-Some.ensures

pub seek-requires : goal.seek-requires
seek-requires c = IsShaped-tight c.args.literals.now c.args.part.now c.in-Some.tight c.requires c.in-Some.ensures

pub returns-in-Some-corner : goal.returns-in-Some-corner
returns-in-Some-corner c =
    let k = c.in-Some-corner.ensures in
    let t = c.in-Some.ensures in
    record {
      inside = within_in c.in-Some.tight c.args.part.now c.in-Some-corner.vector t.within k.inside;
      said = k.said;
      least = λ h x i s. k.least x (t.keeps x i s);
    }

pub returns-in-Some-seek : goal.returns-in-Some-seek
returns-in-Some-seek c =
    let k = c.in-Some-seek.ensures in
    let t = c.in-Some.ensures in
    record {
      inside = within_in c.in-Some.tight c.args.part.now c.in-Some-seek.vector t.within k.0;
      said = k.1;
      least = λ h. absurd cc;
    }

pub returns-in-None : goal.returns-in-None
returns-in-None c = HasNone-from c.args.literals.now c.args.part.now c.in-Some.tight c.in-Some.ensures c.in-None.ensures
