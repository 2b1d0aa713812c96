use Rattle.std.proofs.Common.{FitsSigned, w64, arith, ap, ◌+ℤ◌, ◌≡◌, ◌≤◌, ◌∙◌}
use Rattle.std.specs.Prelude.{unsigned_abs}
use Rattle.std.proofs.lemmas.Int.{to_z-of_z, fits_signed_from_abs}
use Rattle.lin_form.specs.Form.{memory_part, relates, sum_of_products}
use Rattle.lin_form.proofs.Sizes.{value-bound, value-parts, wide}
use Rattle.lin_form.proofs.form.holds_within.Goals as goal

value : (c : goal.After-memory_part) → c.short_dot-inputs.result +ℤ c.memory_part.result
    ≡ sum_of_products c.args.comparison.now.form.inputs c.args.vector.now +ℤ memory_part c.args.comparison.now.form
    c.args.memory.now
value c =
    let inputs : c.short_dot-inputs.result ≡ sum_of_products c.args.comparison.now.form.inputs c.args.vector.now =
    rw (c.as_slice.ensures.value, c.as_slice-2.ensures.value) at c.short_dot-inputs.ensures in
    λ i. inputs i +ℤ c.memory_part.ensures.value i

small : (c : goal.After-memory_part) → unsigned_abs (c.short_dot-inputs.result +ℤ c.memory_part.result) ≤ 900901000000000
small c = rw (value c) (value-bound c.args.comparison.now.form c.args.vector.now c.args.memory.now c.requires.moderate c.requires.numbers c.requires.values)

pub overflow_add-inputs : goal.overflow_add-inputs
overflow_add-inputs c =
    let f : FitsSigned w64 c.short_dot-inputs.result = record { sfits = c.short_dot-inputs.type_inv } in
    let k : FitsSigned w64 c.memory_part.result = record { sfits = c.memory_part.type_inv } in
    let b = small c in
    simp to_z-of_z (fits_signed_from_abs w64 (c.short_dot-inputs.result +ℤ c.memory_part.result) (omega arith))

pub returns : goal.returns
returns c =
    let f : FitsSigned w64 c.short_dot-inputs.result = record { sfits = c.short_dot-inputs.type_inv } in
    let k : FitsSigned w64 c.memory_part.result = record { sfits = c.memory_part.type_inv } in
    let b = small c.before in
    let s = fits_signed_from_abs w64 (c.short_dot-inputs.result +ℤ c.memory_part.result) (omega arith) in
    let t = wide (c.short_dot-inputs.result +ℤ c.memory_part.result) s in
    simp to_z-of_z at c.relates.ensures ∙ ap (relates c.args.comparison.now.relation)
    (value c.before ∙ value-parts c.args.comparison.now.form c.args.vector.now c.args.memory.now)
