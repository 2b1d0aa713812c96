use Rattle.std.proofs.Common.{◌≡◌, get_or, ap, arith}
use Rattle.reduction.specs.declared.blocks.Key.{Key}
use Rattle.reduction.proofs.Splitting.{key_of, split_agrees, split_blocks, split_more}
use Rattle.reduction.proofs.blocks.split.Goals as goal

pub loop-state-preserved : goal.loop-state-preserved
loop-state-preserved c =
    let key : Key = record {
      block = get_or c.args.blocks.now c.loop-state.state 0;
      reply = c.step-next.result.1;
      target = get_or c.args.blocks.now c.step-next.result.0 0;
    } in
    let is : key ≡ key_of c.args.fsm.now c.args.blocks.now c.args.letter c.loop-state.state =
    ap (λ r. record { block = get_or c.args.blocks.now c.loop-state.state 0; reply = r.1; target = get_or c.args.blocks.now r.0 0 }) c.step-next.ensures.row in
    let found = c.in_ok-found.ensures.stored in
    rw (c.in_ok-push.ensures.items)
    (split_more c.args.fsm.now c.args.blocks.now c.args.letter c.requires.blocks.in_order c.loop-state.keys.keys c.loop-state.finer.items c.loop-state.state
    c.loop-state.invariant (omega (arith, c.loop-state-test.true, c.requires.blocks.size, c.states-state-end.ensures.count)) c.in_ok-found.found.0
    key is c.insert_full.new.self.keys c.in_ok-found.ensures.keys c.in_ok-found.ensures.index (found.0, (found.1, found.2)))

pub returns-clause-blocks : goal.returns-clause-blocks
returns-clause-blocks c =
    split_blocks c.args.fsm.now c.args.blocks.now c.args.letter c.states-state-end.ensures.sound c.requires.blocks c.requires.letter c.loop-state.keys.keys
    c.loop-state.finer.items c.loop-state.state c.loop-state.invariant
    (omega (arith, c.loop-state-test.false, c.loop-state.auto.state-end, c.states-state-end.ensures.count))

pub returns-clause-agree : goal.returns-clause-agree
returns-clause-agree c = split_agrees c.args.fsm.now c.args.blocks.now c.args.letter c.loop-state.keys.keys
    c.loop-state.finer.items c.loop-state.state c.loop-state.invariant
