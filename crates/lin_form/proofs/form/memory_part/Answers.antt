use Rattle.std.proofs.Common.{rules, FitsSigned, w64, arith, ◌+ℤ◌, ◌≡◌, ◌≤◌}
use Rattle.std.specs.Prelude.{unsigned_abs}
use Rattle.std.proofs.lemmas.Int.{to_z-of_z, fits_signed_from_abs}
use Rattle.lin_form.proofs.Sizes.{put_in-bound}
use Rattle.lin_form.proofs.form.memory_part.Goals as goal

pub overflow_add-result : goal.overflow_add-result
overflow_add-result c =
    let f : FitsSigned w64 c.short_dot.result = record { sfits = c.short_dot.type_inv } in
    let k : FitsSigned w64 c.args.form.now.constant = search rules in
    let b : unsigned_abs (c.short_dot.result +ℤ c.args.form.now.constant) ≤ 901000000000 =
    rw c.short_dot.ensures (put_in-bound c.args.form.now c.args.memory.now c.requires.moderate c.requires.values) in
    simp to_z-of_z (fits_signed_from_abs w64 (c.short_dot.result +ℤ c.args.form.now.constant) (omega arith))

pub returns-clause-value : goal.returns-clause-value
returns-clause-value c =
    let f : FitsSigned w64 c.short_dot.result = record { sfits = c.short_dot.type_inv } in
    let k : FitsSigned w64 c.args.form.now.constant = search rules in
    let b : unsigned_abs (c.short_dot.result +ℤ c.args.form.now.constant) ≤ 901000000000 =
    rw c.short_dot.ensures (put_in-bound c.args.form.now c.args.memory.now c.requires.moderate c.requires.values) in
    let s = fits_signed_from_abs w64 (c.short_dot.result +ℤ c.args.form.now.constant) (omega arith) in
    let e : c.short_dot.result +ℤ c.args.form.now.constant ≡ _ = λ i. c.short_dot.ensures i +ℤ c.args.form.now.constant in
    simp to_z-of_z e

pub returns-clause-bound : goal.returns-clause-bound
returns-clause-bound c =
    let f : FitsSigned w64 c.short_dot.result = record { sfits = c.short_dot.type_inv } in
    let k : FitsSigned w64 c.args.form.now.constant = search rules in
    let b : unsigned_abs (c.short_dot.result +ℤ c.args.form.now.constant) ≤ 901000000000 =
    rw c.short_dot.ensures (put_in-bound c.args.form.now c.args.memory.now c.requires.moderate c.requires.values) in
    let s = fits_signed_from_abs w64 (c.short_dot.result +ℤ c.args.form.now.constant) (omega arith) in
    simp to_z-of_z b
