use Rattle.std.proofs.Common.{FitsSigned, w64, pos, ◌+ℤ◌, ◌*ℤ◌, to_z, arith}
use Rattle.std.proofs.lemmas.Int.{ints, fits_signed_from_abs, to_z-of_z}
use Rattle.chart_model.specs.Chart.{IsMemory}
use Rattle.chart_model.specs.declared.state.Memory.{Memory}
use Rattle.guard_atoms.proofs.Putting.{is_less, is_not_less, summing_begins, summing_ends, summing_more, summing_small}
use Rattle.guard_atoms.proofs.constants.add_sums.Goals as goal

low_fits : (memory : Memory) → IsMemory memory → FitsSigned w64 memory.lo
low_fits memory is = let low = is.low in fits_signed_from_abs w64 memory.lo (omega arith)

high_fits : (memory : Memory) → IsMemory memory → FitsSigned w64 memory.hi
high_fits memory is = let high = is.high in fits_signed_from_abs w64 memory.hi (omega arith)

end_fits : (memory : Memory) → IsMemory memory → FitsSigned w64 (memory.hi +ℤ pos 1)
end_fits memory is = let high = is.high in fits_signed_from_abs w64 (memory.hi +ℤ pos 1) (omega (arith, ints))

pub loop-value-init : goal.loop-value-init
loop-value-init c =
    let low = low_fits c.args.memory.now c.requires.memory in
    let high = high_fits c.args.memory.now c.requires.memory in
    let end = end_fits c.args.memory.now c.requires.memory in
    let r = c.ranges.coefficient in
    let k = c.ranges.constant in
    simp to_z-of_z (summing_begins c.args.coefficient c.args.constant c.args.memory.now c.args.sums.now.items c.requires.memory)

pub overflow_mul-coefficient : goal.overflow_mul-coefficient
overflow_mul-coefficient c =
    let high = high_fits c.args.memory.now c.requires.memory in
    let end = end_fits c.args.memory.now c.requires.memory in
    let r = c.ranges.coefficient in
    let k = c.ranges.constant in
    let inv = simp to_z-of_z at c.loop-value.invariant in
    let test = is_less (to_z w64 c.loop-value.value-bits) (c.args.memory.now.hi +ℤ pos 1) (simp to_z-of_z at c.loop-value-test.true) in
    let s = summing_small c.args.coefficient c.args.constant c.args.memory.now c.args.sums.now.items c.loop-value.sums.items (to_z w64 c.loop-value.value-bits) (c.args.memory.now.hi +ℤ pos 1) c.requires.memory inv test c.requires.small in
    simp to_z-of_z (fits_signed_from_abs w64 (c.args.coefficient *ℤ to_z w64 c.loop-value.value-bits) (omega (arith, s.0)))

pub overflow_add-constant : goal.overflow_add-constant
overflow_add-constant c =
    let high = high_fits c.args.memory.now c.requires.memory in
    let end = end_fits c.args.memory.now c.requires.memory in
    let r = c.ranges.coefficient in
    let k = c.ranges.constant in
    let inv = simp to_z-of_z at c.loop-value.invariant in
    let test = is_less (to_z w64 c.loop-value.value-bits) (c.args.memory.now.hi +ℤ pos 1) (simp to_z-of_z at c.loop-value-test.true) in
    let s = summing_small c.args.coefficient c.args.constant c.args.memory.now c.args.sums.now.items c.loop-value.sums.items (to_z w64 c.loop-value.value-bits) (c.args.memory.now.hi +ℤ pos 1) c.requires.memory inv test c.requires.small in
    let product = fits_signed_from_abs w64 (c.args.coefficient *ℤ to_z w64 c.loop-value.value-bits) (omega (arith, s.0)) in
    simp to_z-of_z (fits_signed_from_abs w64 (c.args.constant +ℤ c.args.coefficient *ℤ to_z w64 c.loop-value.value-bits) (omega (arith, s.1)))

pub loop-value-preserved : goal.loop-value-preserved
loop-value-preserved c =
    let high = high_fits c.args.memory.now c.requires.memory in
    let end = end_fits c.args.memory.now c.requires.memory in
    let r = c.ranges.coefficient in
    let k = c.ranges.constant in
    let inv = simp to_z-of_z at c.loop-value.invariant in
    let test = is_less (to_z w64 c.loop-value.value-bits) (c.args.memory.now.hi +ℤ pos 1) (simp to_z-of_z at c.loop-value-test.true) in
    let s = summing_small c.args.coefficient c.args.constant c.args.memory.now c.args.sums.now.items c.loop-value.sums.items (to_z w64 c.loop-value.value-bits) (c.args.memory.now.hi +ℤ pos 1) c.requires.memory inv test c.requires.small in
    let product = fits_signed_from_abs w64 (c.args.coefficient *ℤ to_z w64 c.loop-value.value-bits) (omega (arith, s.0)) in
    let sum = fits_signed_from_abs w64 (c.args.constant +ℤ c.args.coefficient *ℤ to_z w64 c.loop-value.value-bits) (omega (arith, s.1)) in
    let above = inv.above in
    let low = c.requires.memory.low in
    let most = c.requires.memory.high in
    let next = fits_signed_from_abs w64 (to_z w64 c.loop-value.value-bits +ℤ pos 1) (omega (arith, ints)) in
    let items = simp to_z-of_z at c.in_ok-push.ensures.items in
    simp to_z-of_z (summing_more c.args.coefficient c.args.constant c.args.memory.now c.args.sums.now.items c.loop-value.sums.items c.push.new.self.items (to_z w64 c.loop-value.value-bits) (c.args.memory.now.hi +ℤ pos 1) inv test items)

pub returns : goal.returns
returns c =
    let high = high_fits c.args.memory.now c.requires.memory in
    let end = end_fits c.args.memory.now c.requires.memory in
    let r = c.ranges.coefficient in
    let k = c.ranges.constant in
    let inv = simp to_z-of_z at c.loop-value.invariant in
    let test = is_not_less (to_z w64 c.loop-value.value-bits) (c.args.memory.now.hi +ℤ pos 1) (simp to_z-of_z at c.loop-value-test.false) in
    summing_ends c.args.coefficient c.args.constant c.args.memory.now c.args.sums.now.items c.loop-value.sums.items (to_z w64 c.loop-value.value-bits) (c.args.memory.now.hi +ℤ pos 1) inv test
