use Rattle.std.proofs.Common.{rules, FitsSigned, w64, get_or, pos}
use Rattle.std.proofs.lemmas.Int.{to_z-of_z}
use Rattle.lin_form.proofs.Divisors.{quotient_step}
use Rattle.lin_form.proofs.direction.quotients.Goals as goal

pub loop-index-preserved : goal.loop-index-preserved
loop-index-preserved c =
    let r = c.ranges.divisor in
    let f : FitsSigned w64 (get_or c.as_slice-numbers.result.now c.loop-index.index (pos 0)) = search rules in
    let same = c.as_slice-numbers.ensures.value in
    let inv = simp to_z-of_z at c.loop-index.invariant in
    let s = quotient_step c.as_slice-numbers.result.now c.args.numbers.now c.loop-index.quotients c.args.divisor
    c.loop-index.index same c.loop-index-test.true c.as_slice-numbers.ensures.short inv.0 c.requires.within
    c.requires.divides c.requires.nonzero inv.1 in
    let q = s.0 in
    simp to_z-of_z (s.1, s.2)
