use Rattle.std.proofs.Common.{arith, ◌∙◌, sym}
use Rattle.std.proofs.lemmas.Int.{to_z-of_z}
use Rattle.linear_refuter.proofs.TightParts.{within_width}
use Rattle.linear_refuter.proofs.Slacks.{IsShrunk-same, IsShrunk-then, IsSlack-narrowed}
use Rattle.linear_refuter.proofs.tightening.narrowed.Goals as goal

pub loop-variable-init : goal.loop-variable-init
loop-variable-init c = rw (c.copy-tight.ensures) (IsShrunk-same c.args.literal.now c.args.part.now)

pub narrowed_at-tight-requires-clause-width : goal.narrowed_at-tight-requires-clause-width
narrowed_at-tight-requires-clause-width c =
    c.requires.width ∙ sym (within_width c.loop-variable.tight c.args.part.now c.loop-variable.invariant.within)

pub narrowed_at-tight-requires-clause-variable : goal.narrowed_at-tight-requires-clause-variable
narrowed_at-tight-requires-clause-variable c =
    let n = within_width c.loop-variable.tight c.args.part.now c.loop-variable.invariant.within in
    omega (arith, n, c.loop-variable-test.true, c.inputs-variable-end.ensures.number)

pub narrowed_at-tight-requires-clause-slack : goal.narrowed_at-tight-requires-clause-slack
narrowed_at-tight-requires-clause-slack c =
    let s = c.ranges.slack in
    simp to_z-of_z (IsSlack-narrowed c.args.literal.now c.args.part.now c.loop-variable.tight c.args.slack c.loop-variable.invariant c.requires.slack)

pub loop-variable-preserved : goal.loop-variable-preserved
loop-variable-preserved c =
    IsShrunk-then c.args.literal.now c.args.part.now c.loop-variable.tight c.narrowed_at-tight.result c.loop-variable.invariant c.narrowed_at-tight.ensures

pub returns-then-not-may_be_cut : goal.returns-then-not-may_be_cut
returns-then-not-may_be_cut c = rw (c.copy.ensures) (IsShrunk-same c.args.literal.now c.args.part.now)
