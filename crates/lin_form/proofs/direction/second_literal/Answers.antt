use Rattle.std.proofs.Common.{arith}
use Rattle.std.proofs.lemmas.Int.{ints}
use Rattle.lin_form.proofs.Truths.{same_constant}
use Rattle.lin_form.proofs.direction.second_literal.Goals as goal

pub returns-in-Equal : goal.returns-in-Equal
returns-in-Equal c = let r = c.ranges.constant in let s =
    c.requires.small in rw c.in-Equal.is
    (same_constant _ _ _ _ c.opposite_literal.ensures.literal (omega (arith, ints)))

pub returns-in-NotEqual : goal.returns-in-NotEqual
returns-in-NotEqual c = let r = c.ranges.constant in let s =
    c.requires.small in rw c.in-NotEqual.is
    (same_constant _ _ _ _ c.opposite_literal-in-NotEqual.ensures.literal (omega (arith, ints)))
