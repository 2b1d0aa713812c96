use Rattle.std.proofs.Common.{arith, w64, pos}
use Rattle.std.proofs.lemmas.Int.{ints, fits_signed_from_abs}
use Rattle.lin_form.proofs.Divisors.{IsKnown, IsKnown-from}
use Rattle.lin_form.proofs.direction.common_divisor.Goals as goal

known : (c : goal.After-greatest_divisor) → IsKnown c.args.coefficients.now c.greatest_divisor.result
known c = IsKnown-from c.as_slice.result.now c.args.coefficients.now c.greatest_divisor.result
    c.as_slice.ensures.value c.greatest_divisor.ensures c.requires.within c.requires.some

pub overflow_cast-result : goal.overflow_cast-result
overflow_cast-result c = let b = (known c).bound in fits_signed_from_abs w64 (pos c.greatest_divisor.result) (omega arith)

pub returns-clause-positive : goal.returns-clause-positive
returns-clause-positive c = let k = known c in let p = k.positive in rw k.same (omega (arith, ints))

pub returns-clause-bound : goal.returns-clause-bound
returns-clause-bound c = let k = known c in rw k.same k.bound

pub returns-clause-common : goal.returns-clause-common
returns-clause-common c = let k = known c in rw k.same k.common
