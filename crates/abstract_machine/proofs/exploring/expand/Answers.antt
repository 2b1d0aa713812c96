use Rattle.std.proofs.Common.{◌≡◌, map, ap, arith}
use Rattle.std.proofs.lemmas.List.{length-map}
use Rattle.std.proofs.lemmas.List.Elements.{All-map}
use Rattle.std.proofs.lemmas.Option.{slice_get_within}
use Rattle.input_classes.specs.declared.class.Class.{Class}
use Rattle.input_classes.specs.VectorSet.{Members}
use Rattle.lin_form.specs.Signature.{IsInInputRanges}
use Rattle.abstract_machine.specs.Reached.{ReachesMore}
use Rattle.abstract_machine.specs.declared.error.ExploreError.{ExploreError}
use Rattle.abstract_machine.proofs.Branching.{passed_up}
use Rattle.abstract_machine.proofs.Keys.{kept}
use Rattle.abstract_machine.proofs.Searching.{exploring_more, exploring_row, may_advance, too_many, witness_at}
use Rattle.abstract_machine.proofs.exploring.expand.Goals as goal

pub step_numbers-requires-clause-reached : goal.step_numbers-requires-clause-reached
step_numbers-requires-clause-reached g c =
    let m = g.P.Plan.plan c.args.plan.now in
    let inv = c.loop-class.invariant in
    may_advance (map (λ (c : Class). c.witness) c.args.classes.now) m c.loop-class.states.keys
    c.loop-class.replies.keys c.loop-class.rows c.args.at c.loop-class.class-index
    inv.exploring (All-map (IsInInputRanges m.signature.inputs) (λ (c : Class). c.witness) c.args.classes.now
    c.requires.vectors) c.args.at c.index-as_slice-at.result inv.here

pub step_numbers-requires-clause-noted : goal.step_numbers-requires-clause-noted
step_numbers-requires-clause-noted g c = c.loop-class.invariant.noted

pub returns-in_err-step-clause-many : goal.returns-in_err-step-clause-many
returns-in_err-step-clause-many g c =
    let m = g.P.Plan.plan c.args.plan.now in
    let inv = c.loop-class.invariant in
    let witness = witness_at c.args.classes.now c.loop-class.class-index c.class-item.result c.loop-class-test.true c.class-item.is in
    let next = m.next c.index-as_slice-at.result c.class-item.result.witness in
    let reply = m.reply c.index-as_slice-at.result c.class-item.result.witness in
    passed_up c.from_residual.result c.in_err-step.field-0.0
    (λ e. e ≡ ExploreError.TooManyConfigurations
    → ReachesMore 1024 (Members (map (λ (c : Class). c.witness) c.args.classes.now)) m) c.from_residual.ensures.1
    (λ many.
    let past = c.in_err-step.ensures.many many in
    too_many (map (λ (c : Class). c.witness) c.args.classes.now) m c.loop-class.states.keys c.loop-class.replies.keys
    c.loop-class.rows c.args.at c.loop-class.class-index inv.exploring inv.inside (rw length-map c.loop-class-test.true)
    c.index-as_slice-at.result inv.here next reply (ap (m.next c.index-as_slice-at.result) witness)
    (ap (m.reply c.index-as_slice-at.result) witness) g.P.State.PartialEq.eq g.met.P.State.Eq.laws g.met.P.Plan.same
    c.step_numbers.new.states.keys past.number past.numbered past.once past.most)

pub loop-class-preserved : goal.loop-class-preserved
loop-class-preserved g c =
    let m = g.P.Plan.plan c.args.plan.now in
    let inv = c.loop-class.invariant in
    let witness = witness_at c.args.classes.now c.loop-class.class-index c.class-item.result c.loop-class-test.true c.class-item.is in
    let next = m.next c.index-as_slice-at.result c.class-item.result.witness in
    let reply = m.reply c.index-as_slice-at.result c.class-item.result.witness in
    let step = c.in_ok-step.ensures.step in
    let here = kept c.loop-class.states.keys next c.step_numbers.new.states.keys c.in_ok-step.step.0 step.next c.args.at
    c.index-as_slice-at.result inv.here in
    record {
      exploring = exploring_row (map (λ (c : Class). c.witness) c.args.classes.now) m c.loop-class.states.keys
          c.loop-class.replies.keys c.loop-class.rows c.args.at
          c.loop-class.class-index inv.exploring inv.inside (rw length-map c.loop-class-test.true)
          c.index-as_slice-at.result inv.here next reply
          (ap (m.next c.index-as_slice-at.result) witness) (ap (m.reply c.index-as_slice-at.result) witness)
          c.step_numbers.new.states.keys c.in_ok-step.step.0 step.next step.low
          c.step_numbers.new.replies.keys c.in_ok-step.step.1 step.reply c.push.new.self c.in_ok-push.ensures;
      inside = slice_get_within c.step_numbers.new.states.keys c.args.at c.index-as_slice-at.result here;
      here = here;
      noted = c.in_ok-step.ensures.noted;
    }

pub returns-clause-exploring : goal.returns-clause-exploring
returns-clause-exploring g c =
    let inv = c.loop-class.invariant in
    exploring_more (map (λ (c : Class). c.witness) c.args.classes.now) (g.P.Plan.plan c.args.plan.now)
    c.loop-class.states.keys c.loop-class.replies.keys c.loop-class.rows
    c.args.at c.loop-class.class-index inv.exploring inv.inside (rw length-map (omega (arith, c.loop-class-test.false, c.loop-class.auto.class-index-end)))
