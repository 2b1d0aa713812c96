use Rattle.std.proofs.Common.{get_or, pos, FitsSigned, w64, to_z, rules}
use Rattle.std.proofs.lemmas.Int.{to_z-of_z}
use Rattle.lin_form.proofs.Products.{ShortStep, ShortStep-made, short_whole}
use Rattle.lin_form.proofs.form.short_dot.Goals as goal

step : (c : goal.After-total-in-loop-index-1) → ShortStep c.args.coefficients.now c.args.numbers.now c.loop-index.index (to_z w64 c.loop-index.total-bits)
step c =
    let fits : FitsSigned w64 (get_or c.args.coefficients.now c.loop-index.index (pos 0)) = search rules in
    ShortStep-made _ _ _ _ c.requires.same c.loop-index-test.true c.requires.moderate c.requires.small fits c.loop-index.invariant

pub overflow_mul-total : goal.overflow_mul-total
overflow_mul-total c =
    let s = step c in
    let a = s.coefficient_fits in
    let b = s.number_fits in
    simp to_z-of_z s.product_fits

pub overflow_add-total : goal.overflow_add-total
overflow_add-total c =
    let s = step c in
    let a = s.coefficient_fits in
    let b = s.number_fits in
    let p = s.product_fits in
    simp to_z-of_z s.sum_fits

pub loop-index-preserved : goal.loop-index-preserved
loop-index-preserved c =
    let s = step c in
    let a = s.coefficient_fits in
    let b = s.number_fits in
    let p = s.product_fits in
    let t = s.sum_fits in
    simp to_z-of_z s.next

pub returns : goal.returns
returns c = short_whole c.args.coefficients.now c.args.numbers.now c.loop-index.index _ c.requires.same c.loop-index-test.false c.loop-index.invariant
