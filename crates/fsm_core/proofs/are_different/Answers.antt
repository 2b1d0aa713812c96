use Rattle.std.proofs.lemmas.Bool.{false≢true}
use Rattle.fsm_core.proofs.Replies.{different_more, found_again}
use Rattle.fsm_core.proofs.are_different.Goals as goal

pub returns-then-contains : goal.returns-then-contains
returns-then-contains c =
    let h = c.if-contains.ensures.cases in (
      λ e. absurd (false≢true e),
      λ d. absurd (found_again c.args.replies.now c.loop-place.place c.index-replies-place.result
          c.loop-place-test.true c.index-replies-place.is h.0 h.1 h.2 d),
    )

pub loop-place-preserved : goal.loop-place-preserved
loop-place-preserved c = different_more c.args.replies.now c.loop-place.place c.index-replies-place.result c.loop-place-test.true c.index-replies-place.is
    c.loop-place.invariant c.if-contains.ensures.cases
