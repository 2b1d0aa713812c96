use Rattle.std.proofs.Common.{rules, FitsSigned, w64, arith}
use Rattle.std.proofs.lemmas.Int.{to_z-of_z}
use Rattle.linear_refuter.proofs.Cuts.{below_in, above_in}
use Rattle.linear_refuter.proofs.Parting.{HasNone-halves}
use Rattle.linear_refuter.proofs.TightParts.{HasNone-flat, HasNone-from, HasNone-parts, IsShaped-tight, bits_within, match_option_from, within_in}
use Rattle.linear_refuter.proofs.seeking.+search.Goals as goal

pub halves_by_form-requires : goal.halves_by_form-requires
halves_by_form-requires t c =
    let k = rw (c.in-Open.is) at c.look_at.ensures in
    IsShaped-tight c.args.literals.now c.args.part.now c.in-Open.tight c.requires.shaped k.0

pub search-requires : goal.search-requires
search-requires t c =
    let k = rw (c.in-Open.is) at c.look_at.ensures in
    let h = c.in-Some.ensures in
    (omega (arith, c.if-turns-gt0.true), (rw (c.as_slice.ensures.value) h.shaped_low, bits_within c.in-Open.tight c.args.part.now c.args.left k.0.within c.requires.bits))

pub returns-in-Some-search : goal.returns-in-Some-search
returns-in-Some-search t c =
    let k = rw (c.in-Open.is) at c.look_at.ensures in
    let h = c.in-Some.ensures in
    let x = c.in-Some-search.vector in
    let n = rw (c.as_slice.ensures.value) at c.in-Some-search.ensures in
    (within_in c.in-Open.tight c.args.part.now x k.0.within n.0, h.from_low x n.1)

pub search-requires-in-Some : goal.search-requires-in-Some
search-requires-in-Some t c =
    let k = rw (c.in-Open.is) at c.look_at.ensures in
    let h = c.in-Some.ensures in
    (omega (arith, c.if-turns-gt0.true), (rw (c.as_slice-in-Some.ensures.value) h.shaped_high, bits_within c.in-Open.tight c.args.part.now c.args.left k.0.within c.requires.bits))

pub returns-in-Some : goal.returns-in-Some
returns-in-Some t c =
    let k = rw (c.in-Open.is) at c.look_at.ensures in
    let h = c.in-Some.ensures in
    let low = rw (c.as_slice.ensures.value) at c.in_default-search.ensures in
    let m = rw (c.as_slice-in-Some.ensures.value) at c.search-in-Some.ensures in
    match_option_from _ _ _ _ c.search-in-Some.result
    (λ none. HasNone-from c.args.literals.now c.args.part.now c.in-Open.tight k.0 (HasNone-halves c.args.literals.now c.in-Open.tight c.in-Some.halves h low none))
    (λ x g. (within_in c.in-Open.tight c.args.part.now x k.0.within g.0, h.from_high x g.1))
    m

pub returns-in_default-halving : goal.returns-in_default-halving
returns-in_default-halving t c =
    let k = rw (c.in-Open.is) at c.look_at.ensures in
    HasNone-from c.args.literals.now c.args.part.now c.in-Open.tight k.0 (HasNone-flat c.args.literals.now c.in-Open.tight c.in_default-halving.ensures k.1)

pub overflow_sub-left : goal.overflow_sub-left
overflow_sub-left t c =
    let k = rw (c.in-Open.is) at c.look_at.ensures in
    let s = c.in-Some-halving.ensures.some c.args.left (bits_within c.in-Open.tight c.args.part.now c.args.left k.0.within c.requires.bits) in
    omega arith

pub overflow_sub-left-in-Open : goal.overflow_sub-left-in-Open
overflow_sub-left-in-Open t c =
    let k = rw (c.in-Open.is) at c.look_at.ensures in
    let s = c.in-Some-halving.ensures.some c.args.left (bits_within c.in-Open.tight c.args.part.now c.args.left k.0.within c.requires.bits) in
    omega arith

pub search-requires-in-Open : goal.search-requires-in-Open
search-requires-in-Open t c =
    let k = rw (c.in-Open.is) at c.look_at.ensures in
    let f : FitsSigned w64 c.in-Some-halving.cut.1 = search rules in
    let value = simp to_z-of_z at c.below-below.ensures.value in
    let bits = bits_within c.in-Open.tight c.args.part.now c.args.left k.0.within c.requires.bits in
    let s = c.in-Some-halving.ensures.some c.args.left bits in
    let width = c.below-below.ensures.width in
    (omega arith, (rw width (IsShaped-tight c.args.literals.now c.args.part.now c.in-Open.tight c.requires.shaped k.0), rw value (c.in-Some-halving.ensures.low c.args.left bits)))

pub search-requires-in-Open-2 : goal.search-requires-in-Open-2
search-requires-in-Open-2 t c =
    let k = rw (c.in-Open.is) at c.look_at.ensures in
    let f : FitsSigned w64 c.in-Some-halving.cut.1 = search rules in
    let value = simp to_z-of_z at c.above-above.ensures.value in
    let bits = bits_within c.in-Open.tight c.args.part.now c.args.left k.0.within c.requires.bits in
    let s = c.in-Some-halving.ensures.some c.args.left bits in
    let width = c.above-above.ensures.width in
    (omega arith, (rw width (IsShaped-tight c.args.literals.now c.args.part.now c.in-Open.tight c.requires.shaped k.0), rw value (c.in-Some-halving.ensures.high c.args.left bits)))

pub returns-in-Some-search-2 : goal.returns-in-Some-search-2
returns-in-Some-search-2 t c =
    let k = rw (c.in-Open.is) at c.look_at.ensures in
    let f : FitsSigned w64 c.in-Some-halving.cut.1 = search rules in
    let value = simp to_z-of_z at c.below-below.ensures.value in
    let n = rw value at c.in-Some-search-2.ensures in
    (within_in c.in-Open.tight c.args.part.now c.in-Some-search-2.vector k.0.within (below_in c.in-Open.tight c.in-Some-halving.cut.0 c.in-Some-halving.cut.1 c.in-Some-search-2.vector c.in-Some-halving.ensures.cut n.0), n.1)

pub returns-in_default-search-2 : goal.returns-in_default-search-2
returns-in_default-search-2 t c =
    let k = rw (c.in-Open.is) at c.look_at.ensures in
    let f : FitsSigned w64 c.in-Some-halving.cut.1 = search rules in
    let lower = simp to_z-of_z at c.below-below.ensures.value in
    let upper = simp to_z-of_z at c.above-above.ensures.value in
    let n = rw lower at c.in_default-search-2.ensures in
    let m = rw upper at c.search-in-Open-2.ensures in
    match_option_from _ _ _ _ c.search-in-Open-2.result
    (λ h. HasNone-from c.args.literals.now c.args.part.now c.in-Open.tight k.0 (HasNone-parts c.args.literals.now c.in-Open.tight c.in-Some-halving.cut.0 c.in-Some-halving.cut.1 n h))
    (λ x h. (within_in c.in-Open.tight c.args.part.now x k.0.within (above_in c.in-Open.tight c.in-Some-halving.cut.0 c.in-Some-halving.cut.1 x c.in-Some-halving.ensures.cut h.0), h.1))
    m
