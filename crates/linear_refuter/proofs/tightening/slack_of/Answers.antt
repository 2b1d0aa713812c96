use Rattle.std.proofs.Common.{rules, FitsSigned, w64, arith, pos, ◌+ℤ◌, ◌-ℤ◌}
use Rattle.std.proofs.lemmas.Int.{ints, fits_signed_from_abs, to_z-of_z}
use Rattle.linear_refuter.proofs.Slacks.{IsSlack-false, IsSlack-true}
use Rattle.linear_refuter.proofs.tightening.slack_of.Goals as goal

pub returns-then-literal : goal.returns-then-literal
returns-then-literal c =
    let l = c.args.literal.now in
    let ends = c.box_ends-ends.result in
    let small = l.atom.normal.small in
    let e : FitsSigned w64 ends.1 = search rules in
    let g : FitsSigned w64 l.atom.constant = search rules in
    let s : FitsSigned w64 (ends.1 +ℤ l.atom.constant) = fits_signed_from_abs w64 _ (omega (arith, ints, small, c.box_ends-ends.ensures.high)) in
    simp to_z-of_z (IsSlack-true l c.args.part.now ends c.if-literal.true c.box_ends-ends.ensures.within)

pub returns-else-literal : goal.returns-else-literal
returns-else-literal c =
    let l = c.args.literal.now in
    let ends = c.box_ends-ends.result in
    let small = l.atom.normal.small in
    let low = c.box_ends-ends.ensures.low in
    let e : FitsSigned w64 ends.0 = search rules in
    let g : FitsSigned w64 l.atom.constant = search rules in
    let s : FitsSigned w64 (pos 0 -ℤ ends.0) = fits_signed_from_abs w64 _ (omega (arith, ints, low)) in
    let t : FitsSigned w64 ((pos 0 -ℤ ends.0) -ℤ l.atom.constant) = fits_signed_from_abs w64 _ (omega (arith, ints, small, low)) in
    let u : FitsSigned w64 (((pos 0 -ℤ ends.0) -ℤ l.atom.constant) -ℤ pos 1) = fits_signed_from_abs w64 _ (omega (arith, ints, small, low)) in
    simp to_z-of_z (IsSlack-false l c.args.part.now ends c.if-literal.false c.box_ends-ends.ensures.within)
