use Rattle.std.proofs.Common.{arith}
use Rattle.std.proofs.lemmas.Int.{ints}
use Rattle.lin_form.proofs.Truths.{same_constant}
use Rattle.lin_form.proofs.direction.first_literal.Goals as goal

pub returns-in-Less-clause-literal : goal.returns-in-Less-clause-literal
returns-in-Less-clause-literal c = let r = c.ranges.constant in let s =
    c.requires.small in rw c.in-Less.is (same_constant _ _ _ _ c.opposite_literal.ensures.literal (omega (arith, ints)))

pub returns-in-LessOrEqual-clause-literal : goal.returns-in-LessOrEqual-clause-literal
returns-in-LessOrEqual-clause-literal c = let r = c.ranges.constant in let s =
    c.requires.small in rw c.in-LessOrEqual.is
    (same_constant _ _ _ _ c.opposite_literal-in-LessOrEqual.ensures.literal (omega (arith, ints)))

pub returns-in-Greater-clause-literal : goal.returns-in-Greater-clause-literal
returns-in-Greater-clause-literal c = let r = c.ranges.constant in let s =
    c.requires.small in rw c.in-Greater.is (same_constant _ _ _ _ c.literal_of.ensures.literal (omega (arith, ints)))
