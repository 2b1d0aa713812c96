use Rattle.std.proofs.Common.{◌+◌, ◌-◌, ◌*◌, ◌∙◌, Some, ap, arith, length, refl, subst, sym}
use Rattle.std.proofs.lemmas.Option.{slice_get-get_or}
use Rattle.lin_form.specs.Signature.{IsInInputRanges}
use Rattle.subject.specs.Meaning.{IsReached}
use Rattle.plan_replies.proofs.Stepping.{known_step, makes_none, makes_step}
use Rattle.plan_replies.proofs.steps.step_from.Goals as goal

pub returns-then-known-gt0 : goal.returns-then-known-gt0
returns-then-known-gt0 g c =
    let m = g.P.Plan.plan c.args.plan.now in
    let old = c.args.steps.now in
    makes_none m c.args.classes.now old.states.keys old.met.items old.nexts.items old.replies.items c.requires.are c.args.at c.args.letter (c.number_at-known.result - 1)
    (known_step m c.args.classes.now old.states.keys old.met.items old.nexts.items old.replies.items c.requires.are c.as_slice.result.now c.args.at c.args.letter
    (c.args.at * length c.args.classes.now + c.args.letter) c.number_at-known.result c.as_slice.ensures.value c.number_at-known.ensures c.if-known-gt0.true refl c.requires.letter)

pub advance-made-requires-clause-reached : goal.advance-made-requires-clause-reached
advance-made-requires-clause-reached g c =
    let keys = c.args.steps.now.states.keys in
    c.requires.are.reached c.args.at c.index-as_slice-at.result
    (slice_get-get_or keys c.args.at c.index-as_slice-at.result c.requires.at ∙ ap Some (sym (rw (c.as_slice-2.ensures.keys) at c.index-as_slice-at.is)))

pub returns : goal.returns
returns g c =
    let m = g.P.Plan.plan c.args.plan.now in
    let old = c.args.steps.now in
    let state = c.index-as_slice-at.result in
    let read_state = rw (c.as_slice-2.ensures.keys) at c.index-as_slice-at.is in
    let vector = c.index-classes-letter.result in
    let inside = subst (IsInInputRanges m.signature.inputs) (sym c.index-classes-letter.is) (c.requires.vectors c.args.letter vector c.requires.letter) in
    let here = c.requires.are.reached c.args.at state (slice_get-get_or old.states.keys c.args.at state c.requires.at ∙ ap Some (sym read_state)) in
    rw (c.in_ok-push.ensures.items, c.in_ok-push-2.ensures.items)
    (makes_step m c.args.classes.now old.states.keys old.met.items old.nexts.items old.replies.items c.requires.are c.number_of.new.keys.keys c.put_number.new.numbers.items c.args.at c.args.letter
    (c.args.at * length c.args.classes.now + c.args.letter) c.len-number.result c.in_ok-next.next state c.advance-made.result.state vector c.advance-made.result.reply c.requires.at c.requires.letter read_state
    c.index-classes-letter.is refl c.advance-made.ensures.state c.advance-made.ensures.reply
    (subst (IsReached m) (sym c.advance-made.ensures.state) (c.reaching.ensures.in_ranges state vector here inside))
    (c.in_ok-next.ensures g.met.P.Plan.same) (omega (arith, c.len-number.ensures, old.nexts.ok)) c.in_ok-put_number.ensures.here c.in_ok-put_number.ensures.others)
