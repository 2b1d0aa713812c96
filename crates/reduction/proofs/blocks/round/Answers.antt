use Rattle.std.proofs.Common.{◌≡◌, ◌+◌, ◌-◌, ◌<◌, get_or, arith}
use Rattle.reduction.specs.Blocks.{AgreeOn, AreAlikeOn, AreFiner}
use Rattle.reduction.specs.Quotient.{AreRepresentatives}
use Rattle.reduction.proofs.Rounds.{IsRound, representative_read, round_alike, round_result, round_split}
use Rattle.reduction.proofs.blocks.round.Goals as goal
use Rattle.reduction.proofs.blocks.round.Goals.{After-first_difference}

-- the round so far, where the state is the one before
round_so_far : (c : After-first_difference) →
    IsRound c.args.fsm.now c.args.letters.now c.args.blocks.now.items c.loop-state.blocks.items
    c.loop-state.representatives.items c.loop-state.changed (c.loop-state.state - 1 + 1)
round_so_far c =
    let one : c.loop-state.state ≡ c.loop-state.state - 1 + 1 = omega (arith, c.loop-state-test.true) in
    rw (one) at c.loop-state.invariant

inside : (c : After-first_difference) → c.loop-state.state - 1 < c.args.fsm.now.states
inside c = omega (arith, c.loop-state-test.true, c.loop-state.auto.state, c.states-state.ensures.count)

representative_is : (c : After-first_difference) →
    c.index-representative.result.now ≡ get_or c.loop-state.representatives.items (get_or c.loop-state.blocks.items (c.loop-state.state - 1) 0) 0
representative_is c = representative_read c.args.fsm.now c.loop-state.blocks.items c.loop-state.representatives.items
    c.loop-state.invariant.are_blocks c.loop-state.invariant.are_representatives (c.loop-state.state - 1) c.index.result.now c.index-representative.result.now
    (inside c) c.index.ensures c.index-representative.ensures

pub loop-state-preserved-in-Some : goal.loop-state-preserved-in-Some
loop-state-preserved-in-Some c =
    let d = (goal.at.loop-state-preserved-in-Some c).After-first_difference in
    let m = c.args.fsm.now in
    let blocks = c.loop-state.blocks.items in
    let finer = c.in_ok-blocks.field-0.items in
    let a = c.in-Some.letter in
    let differ : ¬ AreAlikeOn m blocks a (c.loop-state.state - 1) c.index-representative.result.now =
    rw (c.as_slice-in-loop-state.ensures.value) at c.in-Some.ensures.differ.1 in
    let are_finer : AreFiner blocks finer = rw (c.as_slice-in-Some.ensures.value) at c.in_ok-blocks.ensures.finer in
    let agree : AgreeOn m blocks a finer = rw (c.as_slice-in-Some.ensures.value) at c.in_ok-blocks.ensures.agree in
    let picked : AreRepresentatives finer c.in_ok-representatives-2.representatives.items =
    rw (c.as_slice-in-Some-2.ensures.value) at c.in_ok-representatives-2.ensures in
    round_split m c.args.letters.now c.args.blocks.now.items blocks c.loop-state.representatives.items
    c.loop-state.changed (c.loop-state.state - 1) (round_so_far d) (inside d)
    c.index-representative.result.now (representative_is d) a differ finer c.in_ok-blocks.ensures.blocks are_finer agree
    c.in_ok-representatives-2.representatives.items picked

pub loop-state-preserved : goal.loop-state-preserved
loop-state-preserved c =
    let d = (goal.at.loop-state-preserved c).After-first_difference in
    round_alike c.args.fsm.now c.args.letters.now c.args.blocks.now.items c.loop-state.blocks.items c.loop-state.representatives.items c.loop-state.changed
    (c.loop-state.state - 1) (round_so_far d) (inside d) c.index-representative.result.now (representative_is d)
    (rw (c.as_slice-in-loop-state.ensures.value) at c.in_default.ensures.alike)

pub returns-clause-result : goal.returns-clause-result
returns-clause-result c = round_result c.args.fsm.now c.args.letters.now c.args.blocks.now.items
    c.loop-state.blocks.items c.loop-state.representatives.items c.loop-state.changed
    c.loop-state.state c.loop-state.invariant (omega (arith, c.loop-state-test.false))
