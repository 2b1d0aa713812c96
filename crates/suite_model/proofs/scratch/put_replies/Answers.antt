use Rattle.std.proofs.Common.{◌-◌, ◌≤◌, ◌∙◌, length, arith}
use Rattle.std.proofs.lemmas.List.{length-set}
use Rattle.word_pool.specs.Words.{word}
use Rattle.suite_model.proofs.Putting.{whole_word, at_inside, at_some, at_below, at_length, prefix_there, reply_put, all_put}
use Rattle.suite_model.proofs.scratch.put_replies.Goals as goal

pub prefixes-init : goal.prefixes-init
prefixes-init c = record {
  within = omega (arith, c.length-place.ensures);
  room = λ i. length c.args.into.now;
  at = whole_word c.args.pool.now.words c.args.id c.length-place.result c.requires.id c.length-place.ensures;
  put = λ k from below. absurd (omega (arith, from, below, c.length-place.ensures));
}

pub number-requires : goal.number-requires
number-requires c = at_inside c.args.pool.now.words c.args.replies.now c.words-count.ensures.pooled c.requires.one_each _ c.prefixes.place c.prefixes.at c.prefixes-test.true c.prefixes.invariant.within c.prefixes.invariant.at

pub overflow_sub-number : goal.overflow_sub-number
overflow_sub-number c =
    let some = at_some c.args.pool.now.words c.args.replies.now c.words-count.ensures.pooled c.requires.one_each _ c.prefixes.place c.prefixes.at c.prefixes-test.true c.prefixes.invariant.within c.prefixes.invariant.at in
    omega (arith, some, c.number.ensures.number)

pub at-requires : goal.at-requires
at-requires c =
    let below = at_below c.args.pool.now.words c.args.replies.now c.words-count.ensures.pooled c.requires.one_each _ c.prefixes.place c.prefixes.at c.prefixes-test.true c.prefixes.invariant.within c.prefixes.invariant.at in
    omega (arith, below, c.number.ensures.number)

pub bounds-into-place : goal.bounds-into-place
bounds-into-place c = omega (arith, c.prefixes-test.true, c.prefixes.invariant.within, c.prefixes.invariant.room, c.requires.room)

pub prefix-at-requires-clause-id : goal.prefix-at-requires-clause-id
prefix-at-requires-clause-id c = at_inside c.args.pool.now.words c.args.replies.now c.words-count.ensures.pooled c.requires.one_each _ c.prefixes.place c.prefixes.at c.prefixes-test.true c.prefixes.invariant.within c.prefixes.invariant.at

pub prefix-at-requires-clause-within : goal.prefix-at-requires-clause-within
prefix-at-requires-clause-within c =
    let size = at_length c.args.pool.now.words c.args.replies.now c.words-count.ensures.pooled c.requires.one_each _ c.prefixes.place c.prefixes.at c.prefixes-test.true c.prefixes.invariant.within c.prefixes.invariant.at in
    omega (arith, size)

pub prefixes-preserved : goal.prefixes-preserved
prefixes-preserved c =
    let w = word c.args.pool.now.words c.args.id in
    let room : length w ≤ length c.prefixes.into = omega (arith, c.prefixes.invariant.room, c.requires.room) in
    record {
      within = omega (arith, c.prefixes.invariant.within);
      room = length-set c.prefixes.into (c.prefixes.place - 1) c.at.result.now ∙ c.prefixes.invariant.room;
      at = prefix_there c.args.pool.now.words c.args.replies.now c.words-count.ensures.pooled c.requires.one_each w c.prefixes.place c.prefixes.at c.prefixes-test.true c.prefixes.invariant.within c.prefixes.invariant.at
          c.prefix-at.result c.prefix-at.ensures.word;
      put = reply_put c.args.pool.now.words c.args.replies.now c.words-count.ensures.pooled c.requires.one_each w c.prefixes.place c.prefixes.at c.prefixes-test.true c.prefixes.invariant.within c.prefixes.invariant.at
          c.prefixes.into c.number.result c.at.result.now c.number.ensures.number c.at.ensures room c.prefixes.invariant.put;
    }

pub returns-clause-replies : goal.returns-clause-replies
returns-clause-replies c =
    all_put c.args.pool.now.words c.args.replies.now c.prefixes.into (word c.args.pool.now.words c.args.id) c.prefixes.place (omega (arith, c.prefixes-test.false))
    (omega (arith, c.prefixes.invariant.room, c.requires.room)) c.prefixes.invariant.put
