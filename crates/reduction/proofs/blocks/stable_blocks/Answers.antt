use Rattle.std.proofs.Common.{ℕ, ◌<◌, List, sum, subst, arith}
use Rattle.std.proofs.lemmas.Bool.{MatchBool-at_false, MatchBool-at_true}
use Rattle.reduction.specs.Blocks.{AreStableOn}
use Rattle.reduction.proofs.Rounds.{stable_on_all, sum_upto}
use Rattle.reduction.proofs.blocks.stable_blocks.Goals as goal

pub loop-letters-smaller : goal.loop-letters-smaller
loop-letters-smaller c =
    let upto = sum_upto c.args.fsm.now c.round.new.blocks.items c.in_ok-round.ensures.blocks in
    let rise = MatchBool-at_true (sum c.loop-letters.blocks.items < sum c.round.new.blocks.items)
    (AreStableOn c.args.fsm.now c.as_slice.result.now c.round.new.blocks.items)
    c.if-branch.true c.in_ok-round.ensures.result in
    omega (arith, upto, rise)

pub returns-clause-stable : goal.returns-clause-stable
returns-clause-stable c =
    let blocks = c.round.new.blocks.items in
    let stable = MatchBool-at_false (sum c.loop-letters.blocks.items < sum blocks)
    (AreStableOn c.args.fsm.now c.as_slice.result.now blocks) c.if-branch.false c.in_ok-round.ensures.result in
    stable_on_all c.args.fsm.now c.in_ok-letters.letters.items blocks c.in_ok-letters.ensures
    (subst (λ (letters : List ℕ). AreStableOn c.args.fsm.now letters blocks) c.as_slice.ensures.value stable)
