use Rattle.std.proofs.Common.{rules, FitsSigned, w64, arith}
use Rattle.std.proofs.lemmas.Int.{to_z-of_z}
use Rattle.linear_refuter.proofs.Cuts.{below_in, above_in}
use Rattle.linear_refuter.proofs.TightParts.{HasNone-from, HasNone-parts, IsShaped-tight, within_in}
use Rattle.linear_refuter.proofs.seeking.+short_search.Goals as goal

pub short_search-requires : goal.short_search-requires
short_search-requires t c =
    let k = rw (c.in-Open.is) at c.look_at.ensures in
    let width = c.below-below.ensures.width in
    (omega (arith, c.if-left-eq0.false), rw width (IsShaped-tight c.args.literals.now c.args.part.now c.in-Open.tight c.requires k.0))

pub short_search-requires-in-Empty-short_search : goal.short_search-requires-in-Empty-short_search
short_search-requires-in-Empty-short_search t c =
    let k = rw (c.in-Open.is) at c.look_at.ensures in
    let width = c.above-above.ensures.width in
    (omega (arith, c.if-left-eq0.false), rw width (IsShaped-tight c.args.literals.now c.args.part.now c.in-Open.tight c.requires k.0))

pub returns-in-Found-short_search : goal.returns-in-Found-short_search
returns-in-Found-short_search t c =
    let k = rw (c.in-Open.is) at c.look_at.ensures in
    let f : FitsSigned w64 c.in-Some.cut.1 = search rules in
    let value = simp to_z-of_z at c.below-below.ensures.value in
    let x = c.in-Found-short_search.vector in
    let n = rw value at c.in-Found-short_search.ensures in
    (within_in c.in-Open.tight c.args.part.now x k.0.within (below_in c.in-Open.tight c.in-Some.cut.0 c.in-Some.cut.1 x c.in-Some.ensures.cut n.0), n.1)

pub returns-in-Found-short_search-2 : goal.returns-in-Found-short_search-2
returns-in-Found-short_search-2 t c =
    let k = rw (c.in-Open.is) at c.look_at.ensures in
    let f : FitsSigned w64 c.in-Some.cut.1 = search rules in
    let value = simp to_z-of_z at c.above-above.ensures.value in
    let x = c.in-Found-short_search-2.vector in
    let n = rw value at c.in-Found-short_search-2.ensures in
    (within_in c.in-Open.tight c.args.part.now x k.0.within (above_in c.in-Open.tight c.in-Some.cut.0 c.in-Some.cut.1 x c.in-Some.ensures.cut n.0), n.1)

pub returns-in-Empty-short_search-2 : goal.returns-in-Empty-short_search-2
returns-in-Empty-short_search-2 t c =
    let k = rw (c.in-Open.is) at c.look_at.ensures in
    let f : FitsSigned w64 c.in-Some.cut.1 = search rules in
    let lower = simp to_z-of_z at c.below-below.ensures.value in
    let upper = simp to_z-of_z at c.above-above.ensures.value in
    let n = rw lower at c.in-Empty-short_search.ensures in
    let m = rw upper at c.in-Empty-short_search-2.ensures in
    HasNone-from c.args.literals.now c.args.part.now c.in-Open.tight k.0 (HasNone-parts c.args.literals.now c.in-Open.tight c.in-Some.cut.0 c.in-Some.cut.1 n m)
