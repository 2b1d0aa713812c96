use Rattle.std.proofs.Common.{◌≡◌, take}
use Rattle.lin_form.specs.Form.{sum_of_products}
use Rattle.lin_form.proofs.form.short_dot.Given as goal

abbrev pub invariant-loop-index : goal.invariant-loop-index
invariant-loop-index l = l.total ≡ sum_of_products (take l.index l.coefficients) (take l.index l.numbers)
