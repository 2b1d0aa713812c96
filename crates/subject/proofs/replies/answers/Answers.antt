use Rattle.std.proofs.Common.{[], take, subst, sym}
use Rattle.std.proofs.lemmas.List.Elements.{All-nil, All-take, All-weaker}
use Rattle.lin_form.specs.Signature.{IsInInputRanges}
use Rattle.input_classes.specs.VectorSet.{IsIn, box_of}
use Rattle.subject.specs.Meaning.{IsReached}
use Rattle.subject.proofs.ReachedStates.{reached_word}
use Rattle.subject.proofs.Words.{answered_more, moved_more}
use Rattle.subject.proofs.replies.answers.Goals as goal

pub loop-input-preserved : goal.loop-input-preserved
loop-input-preserved g c =
    let m = g.P.Plan.plan c.args.plan.now in
    let step = c.advance-step.ensures in
    let before = c.loop-input.invariant in
    record {
      replies = answered_more m c.args.word.now c.loop-input.input-index c.input-item.result c.loop-input.replies.items c.push.new.self.items c.loop-input.state c.advance-step.result.reply c.loop-input-test.true c.input-item.is before.replies before.state step.reply c.in_ok-push.ensures.items;
      state = moved_more m c.args.word.now c.loop-input.input-index c.input-item.result c.loop-input.state c.advance-step.result.state c.loop-input-test.true c.input-item.is before.state step.state;
    }

pub advance-step-requires-clause-reached : goal.advance-step-requires-clause-reached
advance-step-requires-clause-reached g c =
    let m = g.P.Plan.plan c.args.plan.now in
    let box = box_of m.signature [] in
    let front = take c.loop-input.input-index c.args.word.now in
    let in_ranges = All-take (IsInInputRanges m.signature.inputs) c.loop-input.input-index c.args.word.now c.requires in
    let is_word = All-weaker (IsInInputRanges m.signature.inputs) (IsIn box) (λ x h. record { inside = h; said = All-nil _ }) front in_ranges in
    subst (IsReached m) (sym c.loop-input.invariant.state) (reached_word box m front is_word)
