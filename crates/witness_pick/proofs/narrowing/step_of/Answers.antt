use Rattle.std.proofs.Common.{rules, FitsSigned, w64, arith, ◌<◌, ◌≤ℤ◌, get_or, pos}
use Rattle.std.proofs.lemmas.Int.{ints, to_z-of_z}
use Rattle.linear_refuter.proofs.CallerLemmas.{at_cut}
use Rattle.witness_pick.specs.inside.Narrowing.{room}
use Rattle.witness_pick.proofs.Limits.{IsNarrowed-below, IsNarrowed-above, in_below, lows_at, number_in, room_above, room_below, wide_at, wide_within}
use Rattle.witness_pick.proofs.narrowing.step_of.Goals as goal

pub range-low-requires : goal.range-low-requires
range-low-requires c = wide_within c.args.limits.now c.args.variable c.requires.wide

pub number_at-number-requires-clause-variable : goal.number_at-number-requires-clause-variable
number_at-number-requires-clause-variable c = wide_within c.args.limits.now c.args.variable c.requires.wide

pub end_of_query-at-requires-clause-wide : goal.end_of_query-at-requires-clause-wide
end_of_query-at-requires-clause-wide c =
    let w = wide_at c.args.limits.now c.args.variable c.range-low.result c.range-low.ensures.value c.requires.wide in
    omega (arith, ints, w)

pub below-least-requires : goal.below-least-requires
below-least-requires c =
    let limits = c.args.limits.now in
    let v = c.args.variable in
    let f : FitsSigned w64 c.range-low.result.0 = search rules in
    let w = wide_at limits v c.range-low.result c.range-low.ensures.value c.requires.wide in
    simp to_z-of_z (at_cut limits v c.range-low.result.0 c.range-low.result c.range-low.ensures.value (omega (arith, ints)) w)

pub below-shorter-requires : goal.below-shorter-requires
below-shorter-requires c =
    let limits = c.args.limits.now in
    let v = c.args.variable in
    let f : FitsSigned w64 c.number_at-number.result = search rules in
    simp to_z-of_z (at_cut limits v c.number_at-number.result c.range-low.result c.range-low.ensures.value
    (rw (c.number_at-number.ensures) (number_in limits c.args.vector v c.range-low.result c.range-low.ensures.value c.requires.inside).0) (omega (arith, ints, c.if-number-high.true)))

pub below-lower-requires : goal.below-lower-requires
below-lower-requires c =
    let limits = c.args.limits.now in
    let v = c.args.variable in
    let f : FitsSigned w64 c.end_of_query-at.result = search rules in
    simp to_z-of_z (at_cut limits v c.end_of_query-at.result c.range-low.result c.range-low.ensures.value
    (omega (arith, ints, c.end_of_query-at.ensures.from_low)) (omega (arith, ints, c.end_of_query-at.ensures.below_high)))

pub above-upper-requires : goal.above-upper-requires
above-upper-requires c =
    let limits = c.args.limits.now in
    let v = c.args.variable in
    let f : FitsSigned w64 c.end_of_query-at.result = search rules in
    simp to_z-of_z (at_cut limits v c.end_of_query-at.result c.range-low.result c.range-low.ensures.value
    (omega (arith, ints, c.end_of_query-at.ensures.from_low)) (omega (arith, ints, c.end_of_query-at.ensures.below_high)))

pub seek-requires : goal.seek-requires
seek-requires c =
    let width = c.below-lower.ensures.width in
    rw (← width) at c.requires.shaped

pub returns-in-Some : goal.returns-in-Some
returns-in-Some c =
    let limits = c.args.limits.now in
    let v = c.args.variable in
    let f : FitsSigned w64 c.range-low.result.0 = search rules in
    let value = simp to_z-of_z at c.below-least.ensures.value in
    let w = wide_at limits v c.range-low.result c.range-low.ensures.value c.requires.wide in
    let cut = at_cut limits v c.range-low.result.0 c.range-low.result c.range-low.ensures.value (omega (arith, ints)) w in
    let less : room c.below-least.result < room limits = rw value (room_below limits v c.range-low.result.0 cut) in
    let k = c.in-Some.ensures in
    let e = lows_at limits v c.range-low.result c.range-low.ensures.value in
    let same = k.lowest in
    let number : get_or c.in-Some.lowest v (pos 0) ≤ℤ c.range-low.result.0 = rw (same, e) (omega (arith, ints)) in
    let inside = in_below limits v c.range-low.result.0 c.in-Some.lowest k.inside number in
    record {
      smaller = less;
      width = c.below-least.ensures.width;
      keeps = λ box n. rw value (IsNarrowed-below c.args.literals.now box limits v c.range-low.result.0 c.args.vector c.in-Some.lowest cut c.requires.wide n inside k.said);
    }

pub returns-then-number-high : goal.returns-then-number-high
returns-then-number-high c =
    let limits = c.args.limits.now in
    let v = c.args.variable in
    let f : FitsSigned w64 c.number_at-number.result = search rules in
    let value = simp to_z-of_z at c.below-shorter.ensures.value in
    let cut = at_cut limits v c.number_at-number.result c.range-low.result c.range-low.ensures.value
    (rw (c.number_at-number.ensures) (number_in limits c.args.vector v c.range-low.result c.range-low.ensures.value c.requires.inside).0) (omega (arith, ints, c.if-number-high.true)) in
    let less : room c.below-shorter.result < room limits = rw value (room_below limits v c.number_at-number.result cut) in
    let number : get_or c.args.vector v (pos 0) ≤ℤ c.number_at-number.result = omega (arith, ints, c.number_at-number.ensures) in
    let inside = in_below limits v c.number_at-number.result c.args.vector c.requires.inside number in
    record {
      smaller = less;
      width = c.below-shorter.ensures.width;
      keeps = λ box n. rw value (IsNarrowed-below c.args.literals.now box limits v c.number_at-number.result c.args.vector c.args.vector cut c.requires.wide n inside n.said);
    }

pub returns-in-Some-seek : goal.returns-in-Some-seek
returns-in-Some-seek c =
    let limits = c.args.limits.now in
    let v = c.args.variable in
    let f : FitsSigned w64 c.end_of_query-at.result = search rules in
    let value = simp to_z-of_z at c.below-lower.ensures.value in
    let cut = at_cut limits v c.end_of_query-at.result c.range-low.result c.range-low.ensures.value
    (omega (arith, ints, c.end_of_query-at.ensures.from_low)) (omega (arith, ints, c.end_of_query-at.ensures.below_high)) in
    let less : room c.below-lower.result < room limits = rw value (room_below limits v c.end_of_query-at.result cut) in
    let k = rw value at c.in-Some-seek.ensures in
    record {
      smaller = less;
      width = c.below-lower.ensures.width;
      keeps = λ box n. rw value (IsNarrowed-below c.args.literals.now box limits v c.end_of_query-at.result c.args.vector c.in-Some-seek.found cut c.requires.wide n k.0 k.1);
    }

pub returns-in-None : goal.returns-in-None
returns-in-None c =
    let limits = c.args.limits.now in
    let v = c.args.variable in
    let f : FitsSigned w64 c.end_of_query-at.result = search rules in
    let value = simp to_z-of_z at c.above-upper.ensures.value in
    let cut = at_cut limits v c.end_of_query-at.result c.range-low.result c.range-low.ensures.value
    (omega (arith, ints, c.end_of_query-at.ensures.from_low)) (omega (arith, ints, c.end_of_query-at.ensures.below_high)) in
    let less : room c.above-upper.result < room limits = rw value (room_above limits v c.end_of_query-at.result cut) in
    let lower = simp to_z-of_z at c.below-lower.ensures.value in
    let k = rw lower at c.in-None.ensures in
    record {
      smaller = less;
      width = c.above-upper.ensures.width;
      keeps = λ box n. rw value (IsNarrowed-above c.args.literals.now box limits v c.end_of_query-at.result c.args.vector cut k n);
    }
