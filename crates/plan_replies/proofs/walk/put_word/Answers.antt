use Rattle.plan_replies.proofs.Numbers.{next_word, numbers_more, place_leads}
use Rattle.plan_replies.proofs.walk.put_word.Goals as goal

pub returns-clause-numbers : goal.returns-clause-numbers
returns-clause-numbers g c =
    let m = g.P.Plan.plan c.args.plan.now in
    let words = c.args.pool.now.words in
    let pooled = c.words-count.ensures.pooled in
    let old = c.args.steps.now in
    let new = c.step_from.new.steps in
    let next = next_word words pooled c.args.number c.word-id.result c.length-length.result c.prefix-before.result c.number-place.result c.last-letter.result c.requires.some c.requires.inside
    c.word-id.ensures c.length-length.ensures c.prefix-before.ensures.word c.prefix-before.ensures.lower c.number-place.ensures.number c.last-letter.ensures in
    rw (c.in_ok-push.ensures.items)
    (numbers_more m c.args.classes.now words pooled c.args.number old.states.keys old.met.items old.nexts.items old.replies.items c.args.numbers.now.items c.requires.steps c.requires.numbers
    c.number-place.result c.last-letter.result c.place_after-at.result c.in_ok-step.step new.states.keys new.met.items new.nexts.items new.replies.items next
    (place_leads m c.args.classes.now words pooled c.args.number old.states.keys old.met.items old.nexts.items old.replies.items c.args.numbers.now.items c.requires.steps c.requires.numbers
    c.number-place.result c.place_after-at.result c.as_slice.result.now c.as_slice-2.result.now next.lower c.as_slice.ensures.value c.as_slice-2.ensures.value c.place_after-at.ensures.first c.place_after-at.ensures.others)
    c.in_ok-step.ensures)
