use Rattle.std.proofs.Common.{◌<◌, FitsSigned, w64, get_or, pos, length, arith, rules, ap, subst, sym, ◌∙◌, ◌+◌}
use Rattle.std.specs.Prelude.{flat_map}
use Rattle.std.proofs.lemmas.Int.{to_z-of_z}
use Rattle.chart_model.specs.Chart.{IsMemory}
use Rattle.guard_atoms.specs.inside.Adding.{sums_from}
use Rattle.guard_atoms.proofs.Putting.{IsPutIn, is_not_zero, is_zero, put_all, put_named, put_unnamed}
use Rattle.guard_atoms.proofs.constants.constants_of.Goals as goal
use Rattle.guard_atoms.proofs.constants.constants_of.Goals.{then-coefficient-ne0+in_ok-constants, else-coefficient-ne0}

pub loop-index-preserved : goal.loop-index-preserved
loop-index-preserved c =
    let r = c.ranges.constant in
    let f : FitsSigned w64 (get_or c.args.coefficients.now c.loop-index.index (pos 0)) = search rules in
    let m : c.loop-index.index < length c.args.coefficients.now = omega (arith, c.loop-index-test.true, c.requires.each) in
    let is : IsMemory c.index-memories-index.result = search rules in
    let inv = simp to_z-of_z at c.loop-index.invariant in
    elim c.if-coefficient-ne0.branch [
      | then-coefficient-ne0+in_ok-constants w ↦
          let items = simp to_z-of_z at w.in_ok-constants.ensures in
          let same = ap (λ v. v.items) w.constants-is ∙ items ∙ ap (flat_map (sums_from (get_or c.args.coefficients.now c.loop-index.index (pos 0)) c.index-memories-index.result)) w.as_slice.ensures.value in
          simp to_z-of_z (put_named c.args.coefficients.now c.args.memories.now c.args.constant c.loop-index.constants.items c.if-coefficient-ne0.constants.items c.loop-index.index c.index-memories-index.result c.loop-index-test.true m c.index-memories-index.is is (is_not_zero (get_or c.args.coefficients.now c.loop-index.index (pos 0)) w.if-coefficient-ne0.true) same inv)
      | else-coefficient-ne0 w ↦
          simp to_z-of_z (subst (λ v. IsPutIn c.args.coefficients.now c.args.memories.now c.args.constant v.items (c.loop-index.index + 1)) (sym w.constants-is) (put_unnamed c.args.coefficients.now c.args.memories.now c.args.constant c.loop-index.constants.items c.loop-index.index c.index-memories-index.result c.loop-index-test.true m c.index-memories-index.is (is_zero (get_or c.args.coefficients.now c.loop-index.index (pos 0)) f w.if-coefficient-ne0.false) inv))
    ]

pub returns-clause-constants : goal.returns-clause-constants
returns-clause-constants c =
    let r = c.ranges.constant in
    put_all c.args.coefficients.now c.args.memories.now c.args.constant c.loop-index.constants.items c.loop-index.index c.loop-index-test.false (simp to_z-of_z at c.loop-index.invariant)
