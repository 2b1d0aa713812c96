use Rattle.std.specs.Prelude.{Option, None, Some, MatchOption}
use Rattle.linear_refuter.specs.Answer.{HasNone}
use Rattle.class_split.specs.inside.Region.{IsEmptyRegion, IsFound, IsFoundIn}
use Rattle.class_split.specs.declared.region.Region.{Region}
use Rattle.class_split.specs.declared.found.Found.{Found}
use Rattle.class_split.proofs.found.found_in.Goals as goal

found_from : (region : Region) (o : Option Found) → MatchOption o (HasNone region.kept.items region.part) (λ f. IsFoundIn region.kept.items region.part f) → MatchOption o (IsEmptyRegion region) (λ f. IsFound region f)
found_from region None h = λ x i. h x i.inside i.said
found_from region (Some f) h = record { here = record { inside = h.inside; said = h.said }; least = λ t x i. h.least t x i.inside i.said }

pub returns-in-Some : goal.returns-in-Some
returns-in-Some c =
    let k = rw (c.as_slice.ensures.value) at c.in-Some.ensures in
    record { here = record { inside = k.inside; said = k.said }; least = λ t x i. k.least x i.inside }

pub returns : goal.returns
returns c = found_from c.args.region.now c.found_by.result (rw (c.as_slice-2.ensures.value) at c.found_by.ensures)
