use Rattle.std.proofs.Common.{◌≡◌, ◌*◌, length, ap, ◌∙◌, arith}
use Rattle.reduction.proofs.Picking.{rows_all}
use Rattle.reduction.proofs.quotient.rows_of.Goals as goal

pub returns : goal.returns
returns c =
    let end : c.loop-place.place ≡ length c.args.representatives.now * c.letters-letters.result =
    omega (arith, c.loop-place-test.false, c.loop-place.auto.place-end) in
    rows_all c.args.fsm.now c.args.blocks.now c.args.representatives.now c.loop-place.rows c.loop-place.place c.loop-place.invariant
    (end ∙ ap (λ n. length c.args.representatives.now * n) c.letters-letters.ensures.count)
