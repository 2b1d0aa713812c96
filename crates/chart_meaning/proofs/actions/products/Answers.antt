use Rattle.std.proofs.Common.{get_or, pos, FitsSigned, w64, to_z, rules}
use Rattle.std.proofs.lemmas.Int.{to_z-of_z}
use Rattle.chart_meaning.proofs.Acting.{IsSumStep, IsSumStep-made, sum_whole, sum_whole-bound}
use Rattle.chart_meaning.proofs.actions.products.Goals as goal

step : (c : goal.After-total-in-loop-index-1) → IsSumStep c.args.coefficients.now c.args.values.now c.loop-index.index (to_z w64 c.loop-index.total-bits)
step c =
    let fits : FitsSigned w64 (get_or c.args.coefficients.now c.loop-index.index (pos 0)) = search rules in
    IsSumStep-made _ _ _ _ c.told-coefficients c.told-values c.loop-index-test.true c.requires.moderate c.requires.small fits c.loop-index.invariant

pub overflow_mul-total : goal.overflow_mul-total
overflow_mul-total c =
    let s = step c in
    let a = s.coefficient_fits in
    let b = s.number_fits in
    simp to_z-of_z s.product_fits

pub overflow_add-total : goal.overflow_add-total
overflow_add-total c =
    let s = step c in
    let a = s.coefficient_fits in
    let b = s.number_fits in
    let p = s.product_fits in
    simp to_z-of_z s.sum_fits

pub loop-index-preserved : goal.loop-index-preserved
loop-index-preserved c =
    let s = step c in
    let a = s.coefficient_fits in
    let b = s.number_fits in
    let p = s.product_fits in
    let t = s.sum_fits in
    simp to_z-of_z s.next

pub returns-clause-value : goal.returns-clause-value
returns-clause-value c =
    sum_whole c.args.coefficients.now c.args.values.now c.loop-index.index _ c.told-coefficients c.told-values
    c.loop-index-test.false c.loop-index.invariant

pub returns-clause-bound : goal.returns-clause-bound
returns-clause-bound c =
    sum_whole-bound c.args.coefficients.now c.args.values.now c.loop-index.index _ c.requires.moderate
    c.requires.small c.loop-index.invariant
