use Rattle.std.proofs.Common.{rules, FitsSigned, w64, arith, pos, ◌+ℤ◌, ◌-ℤ◌}
use Rattle.std.proofs.lemmas.Int.{ints, fits_signed_from_abs, to_z-of_z}
use Rattle.linear_refuter.proofs.Cuts.{cut_at}
use Rattle.linear_refuter.proofs.Slacks.{IsShrunk-above, IsShrunk-below, IsShrunk-same}
use Rattle.linear_refuter.proofs.tightening.narrowed_at.Goals as goal

pub returns-then-not-is_cut : goal.returns-then-not-is_cut
returns-then-not-is_cut c = IsShrunk-same c.args.literal.now c.args.part

pub returns-then-factor-gt0 : goal.returns-then-factor-gt0
returns-then-factor-gt0 c = IsShrunk-same c.args.literal.now c.args.part

pub returns : goal.returns
returns c = IsShrunk-same c.args.literal.now c.args.part

pub overflow_sub-range : goal.overflow_sub-range
overflow_sub-range c =
    let r = c.range-range.result in
    let at = c.limit_of-at.result in
    let f : FitsSigned w64 at = search rules in
    let g : FitsSigned w64 r.1 = search rules in
    let cut = simp to_z-of_z at c.if-not-is_cut.ensures in
    let k = cut_at c.args.part c.args.variable at r c.range-range.ensures.value cut in
    simp to_z-of_z (fits_signed_from_abs w64 _ (omega (arith, ints, k.0, k.1, c.range-range.ensures.ranged.low, c.range-range.ensures.ranged.high)))

pub is_product_above-requires-clause-other : goal.is_product_above-requires-clause-other
is_product_above-requires-clause-other c =
    let r = c.range-range.result in
    let at = c.limit_of-at.result in
    let f : FitsSigned w64 at = search rules in
    let g : FitsSigned w64 r.1 = search rules in
    let cut = simp to_z-of_z at c.if-not-is_cut.ensures in
    let k = cut_at c.args.part c.args.variable at r c.range-range.ensures.value cut in
    let low = c.range-range.ensures.ranged.low in
    let high = c.range-range.ensures.ranged.high in
    let s : FitsSigned w64 (r.1 -ℤ at) = fits_signed_from_abs w64 _ (omega (arith, ints, k.0, k.1, low, high)) in
    simp to_z-of_z (omega (arith, ints, k.0, k.1, low, high))

pub returns-then-is_product_above : goal.returns-then-is_product_above
returns-then-is_product_above c =
    let r = c.range-range.result in
    let at = c.limit_of-at.result in
    let a = c.coefficient-factor.result in
    let f : FitsSigned w64 at = search rules in
    let g : FitsSigned w64 r.1 = search rules in
    let h : FitsSigned w64 a = search rules in
    let sl = c.ranges.slack in
    let cut = simp to_z-of_z at c.if-not-is_cut.ensures in
    let k = cut_at c.args.part c.args.variable at r c.range-range.ensures.value cut in
    let ranged = c.range-range.ensures.ranged in
    let s : FitsSigned w64 (r.1 -ℤ at) = fits_signed_from_abs w64 _ (omega (arith, ints, k.0, k.1, ranged.low, ranged.high)) in
    let value = simp to_z-of_z at c.above.ensures.value in
    let positive = simp to_z-of_z at c.if-factor-gt0.true in
    let more = simp to_z-of_z at c.if-is_product_above.ensures in
    let slack = c.requires.slack in
    rw value (
    IsShrunk-above c.args.literal.now c.args.part c.args.variable r a at c.args.slack c.requires.variable c.range-range.ensures.value cut ranged.ordered
    c.coefficient-factor.ensures.value
    (omega (arith, ints, positive))
    slack
    more
    )

pub overflow_add-at : goal.overflow_add-at
overflow_add-at c =
    let r = c.range-range.result in
    let at = c.limit_of-at.result in
    let f : FitsSigned w64 at = search rules in
    let cut = simp to_z-of_z at c.if-not-is_cut.ensures in
    let k = cut_at c.args.part c.args.variable at r c.range-range.ensures.value cut in
    simp to_z-of_z (fits_signed_from_abs w64 _ (omega (arith, ints, k.0, k.1, c.range-range.ensures.ranged.low, c.range-range.ensures.ranged.high)))

pub overflow_sub-at : goal.overflow_sub-at
overflow_sub-at c =
    let r = c.range-range.result in
    let at = c.limit_of-at.result in
    let f : FitsSigned w64 at = search rules in
    let g : FitsSigned w64 r.0 = search rules in
    let cut = simp to_z-of_z at c.if-not-is_cut.ensures in
    let k = cut_at c.args.part c.args.variable at r c.range-range.ensures.value cut in
    let low = c.range-range.ensures.ranged.low in
    let high = c.range-range.ensures.ranged.high in
    let s : FitsSigned w64 (at +ℤ pos 1) = fits_signed_from_abs w64 _ (omega (arith, ints, k.0, k.1, low, high)) in
    simp to_z-of_z (fits_signed_from_abs w64 _ (omega (arith, ints, k.0, k.1, low, high)))

pub is_product_above-requires-2-clause-other : goal.is_product_above-requires-2-clause-other
is_product_above-requires-2-clause-other c =
    let r = c.range-range.result in
    let at = c.limit_of-at.result in
    let f : FitsSigned w64 at = search rules in
    let g : FitsSigned w64 r.0 = search rules in
    let cut = simp to_z-of_z at c.if-not-is_cut.ensures in
    let k = cut_at c.args.part c.args.variable at r c.range-range.ensures.value cut in
    let low = c.range-range.ensures.ranged.low in
    let high = c.range-range.ensures.ranged.high in
    let s : FitsSigned w64 (at +ℤ pos 1) = fits_signed_from_abs w64 _ (omega (arith, ints, k.0, k.1, low, high)) in
    let t : FitsSigned w64 ((at +ℤ pos 1) -ℤ r.0) = fits_signed_from_abs w64 _ (omega (arith, ints, k.0, k.1, low, high)) in
    simp to_z-of_z (omega (arith, ints, k.0, k.1, low, high))

pub returns-then-is_product_above-2 : goal.returns-then-is_product_above-2
returns-then-is_product_above-2 c =
    let r = c.range-range.result in
    let at = c.limit_of-at.result in
    let a = c.coefficient-factor.result in
    let f : FitsSigned w64 at = search rules in
    let g : FitsSigned w64 r.0 = search rules in
    let h : FitsSigned w64 a = search rules in
    let sl = c.ranges.slack in
    let cut = simp to_z-of_z at c.if-not-is_cut.ensures in
    let k = cut_at c.args.part c.args.variable at r c.range-range.ensures.value cut in
    let ranged = c.range-range.ensures.ranged in
    let s : FitsSigned w64 (at +ℤ pos 1) = fits_signed_from_abs w64 _ (omega (arith, ints, k.0, k.1, ranged.low, ranged.high)) in
    let t : FitsSigned w64 ((at +ℤ pos 1) -ℤ r.0) = fits_signed_from_abs w64 _ (omega (arith, ints, k.0, k.1, ranged.low, ranged.high)) in
    let u : FitsSigned w64 (pos 0 -ℤ a) = fits_signed_from_abs w64 _ (omega (arith, ints, c.coefficient-factor.ensures.small)) in
    let value = simp to_z-of_z at c.below.ensures.value in
    let positive = simp to_z-of_z at c.if-factor-gt0.false in
    let more = simp to_z-of_z at c.if-is_product_above-2.ensures in
    let slack = c.requires.slack in
    rw value (
    IsShrunk-below c.args.literal.now c.args.part c.args.variable r a at c.args.slack c.requires.variable c.range-range.ensures.value cut ranged.ordered
    c.coefficient-factor.ensures.value
    (omega (arith, ints, positive))
    slack
    more
    )
