use Rattle.std.proofs.Common.{◌∙◌, ap, refl, subst, map, List, ℤ}
use Rattle.input_classes.specs.declared.class.Class.{Class}
use Rattle.suite_model.specs.Pooled.{lists}
use Rattle.suite_words.specs.Cover.{AreLetters}
use Rattle.std.specs.List.{All}
use Rattle.plan_replies.specs.Replies.{AreReplies}
use Rattle.concretise.proofs.Whole.{count_is, suite_complete, whole_parts, whole_suite, witnesses_inside}
use Rattle.concretise.proofs.answering.suite_of_words.Goals as goal

pub replies_of-requires-clause-vectors : goal.replies_of-requires-clause-vectors
replies_of-requires-clause-vectors g c =
    let exact = c.classes.ensures.exact in
    witnesses_inside c.args.partition.now (g.P.Plan.plan c.args.plan.now).signature.inputs c.as_slice.result.now (c.as_slice.ensures.value ∙ c.in_ok-classes.ensures ∙ ap (map (λ (k : Class). k.witness)) c.classes.ensures.value) c.requires.ranges exact.exact

pub replies_of-requires-clause-letters : goal.replies_of-requires-clause-letters
replies_of-requires-clause-letters g c =
    subst (λ n. All (AreLetters n) c.args.pool.words) (count_is c.args.partition.now c.as_slice.result.now (c.as_slice.ensures.value ∙ c.in_ok-classes.ensures ∙ ap (map (λ (k : Class). k.witness)) c.classes.ensures.value)) c.requires.words.letters

pub from_replies-requires : goal.from_replies-requires
from_replies-requires g c =
    let m = g.P.Plan.plan c.args.plan.now in
    let exact = c.classes.ensures.exact in
    let is = c.in_ok-classes.ensures ∙ ap (map (λ (k : Class). k.witness)) c.classes.ensures.value in
    whole_parts m c.args.partition.now c.args.bound c.args.pool.words c.args.cover.now c.args.marks.now c.args.tests.items c.in_ok-classes.classes.items is c.words-count.ensures.pooled c.requires.words
    c.in_ok-signature.signature (lists c.in_ok-cover_words.cover_words.items) (lists c.in_ok-mark_words.mark_words.items) c.in_ok-replies.replies (c.in_ok-signature.ensures ∙ c.signature.ensures)
    (subst (λ (xs : List (List ℤ)). AreReplies m xs c.args.pool.words c.in_ok-replies.replies) c.as_slice.ensures.value c.in_ok-replies.ensures) c.requires.replies
    (witnesses_inside c.args.partition.now m.signature.inputs c.in_ok-classes.classes.items is c.requires.ranges exact.exact) c.in_ok-cover_words.ensures c.in_ok-mark_words.ensures

pub returns-clause-suite : goal.returns-clause-suite
returns-clause-suite g c =
    let m = g.P.Plan.plan c.args.plan.now in
    let is = c.in_ok-classes.ensures ∙ ap (map (λ (k : Class). k.witness)) c.classes.ensures.value in
    whole_suite m c.args.partition.now c.args.bound c.args.pool.words c.args.cover.now c.args.marks.now c.args.tests.items c.in_ok-classes.classes.items is c.words-count.ensures.pooled c.requires.words
    c.in_ok-signature.signature (lists c.in_ok-cover_words.cover_words.items) (lists c.in_ok-mark_words.mark_words.items) _ c.in_ok-replies.replies (c.in_ok-signature.ensures ∙ c.signature.ensures)
    (subst (λ (xs : List (List ℤ)). AreReplies m xs c.args.pool.words c.in_ok-replies.replies) c.as_slice.ensures.value c.in_ok-replies.ensures) refl c.in_ok-cover_words.ensures c.in_ok-mark_words.ensures _ c.from_replies.ensures

pub returns-clause-complete : goal.returns-clause-complete
returns-clause-complete g c =
    let m = g.P.Plan.plan c.args.plan.now in
    let exact = c.classes.ensures.exact in
    let is = c.in_ok-classes.ensures ∙ ap (map (λ (k : Class). k.witness)) c.classes.ensures.value in
    suite_complete m c.args.partition.now c.args.bound c.args.pool.words c.args.cover.now c.args.marks.now c.args.tests.items _
    (whole_suite m c.args.partition.now c.args.bound c.args.pool.words c.args.cover.now c.args.marks.now c.args.tests.items c.in_ok-classes.classes.items is c.words-count.ensures.pooled c.requires.words
    c.in_ok-signature.signature (lists c.in_ok-cover_words.cover_words.items) (lists c.in_ok-mark_words.mark_words.items) _ c.in_ok-replies.replies (c.in_ok-signature.ensures ∙ c.signature.ensures)
    (subst (λ (xs : List (List ℤ)). AreReplies m xs c.args.pool.words c.in_ok-replies.replies) c.as_slice.ensures.value c.in_ok-replies.ensures) refl c.in_ok-cover_words.ensures c.in_ok-mark_words.ensures _ c.from_replies.ensures) exact.exact c.requires.ranges
