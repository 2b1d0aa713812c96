use Rattle.std.proofs.Common.{rules, FitsSigned, w64, arith, pos, ◌-ℤ◌, ap}
use Rattle.std.proofs.lemmas.Int.{ints, fits_signed_from_abs, to_z-of_z}
use Rattle.lin_form.specs.Form.{sum_of_products}
use Rattle.linear_refuter.proofs.Slacks.{said_below}
use Rattle.linear_refuter.proofs.implication.nearer.Goals as goal

pub returns-then-limit-ends : goal.returns-then-limit-ends
returns-then-limit-ends c = λ x s b.
    let l = c.args.literal.now in
    let small = l.atom.normal.small in
    let e = c.are_same.ensures c.if-not-are_same.false in
    let f = ap (λ t. sum_of_products t x) e in
    let n = said_below l x c.if-literal.false s in
    let k : FitsSigned w64 c.args.ends.0 = search rules in
    let g : FitsSigned w64 l.atom.constant = search rules in
    let p : FitsSigned w64 (pos 0 -ℤ l.atom.constant) = fits_signed_from_abs w64 _ (omega (arith, ints, small)) in
    let q : FitsSigned w64 ((pos 0 -ℤ l.atom.constant) -ℤ pos 1) = fits_signed_from_abs w64 _ (omega (arith, ints, small)) in
    simp to_z-of_z (b.0, omega (arith, ints, f, n))
