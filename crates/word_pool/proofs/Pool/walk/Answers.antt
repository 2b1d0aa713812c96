use Rattle.std.proofs.Common.{◌≡◌, ℕ, ◌<◌, length, ap, subst, ◌∙◌, arith}
use Rattle.std.proofs.lemmas.List.{get_or_read}
use Rattle.word_pool.specs.Words.{Words, word}
use Rattle.word_pool.specs.Order.{AreEnds}
use Rattle.word_pool.specs.Trie.{no_node, words_of, IsNext}
use Rattle.word_pool.proofs.Walking.{IsVisited, visit_end, visit_inner, walk_next, walk_all, fewer_left}
use Rattle.word_pool.proofs.Ending.{ends_cover}
use Rattle.word_pool.proofs.Pool.walk.Goals as goal
use Rattle.word_pool.proofs.Pool.walk.Goals.{After-next_of-at, then-index-eq0+in_ok-push, else-index-eq0}

visited : (c : After-next_of-at) → IsVisited (words_of c.self.inside.nodes.items) c.loop-ids.at c.if-index-eq0.ids.items
visited c =
    let ns = c.self.inside.nodes.items in
    let w = c.loop-ids.invariant in
    let inside : c.loop-ids.at < length ns = omega (arith, w.inside, c.self.invariant.size) in
    let child = ap (λ n. n.child) (get_or_read ns c.loop-ids.at c.index.result.now inside c.index.ensures no_node) in
    elim c.if-index-eq0.branch [
      | then-index-eq0+in_ok-push b ↦ rw (ap (λ v. v.items) b.ids-is ∙ b.in_ok-push.ensures.items)
          (visit_end ns (words_of ns) c.self.invariant c.loop-ids.at c.loop-ids.ids.items w (omega (arith, child, b.if-index-eq0.true)))
      | else-index-eq0 b ↦ rw (ap (λ v. v.items) b.ids-is)
          (visit_inner ns (words_of ns) c.self.invariant c.loop-ids.at c.loop-ids.ids.items w (omega (arith, child, b.if-index-eq0.false)))
    ]

next : (c : After-next_of-at) → IsNext (words_of c.self.inside.nodes.items) c.loop-ids.at c.next_of-at.result
next c = rw (c.as_slice.ensures.value) at c.next_of-at.ensures

different : (c : After-next_of-at) (i j : ℕ) → i < length (words_of c.self.inside.nodes.items) → j < length (words_of c.self.inside.nodes.items) →
    word (words_of c.self.inside.nodes.items) i ≡ word (words_of c.self.inside.nodes.items) j → i ≡ j
different c i j h k = c.self.invariant.different i j (omega (arith, h, c.self.invariant.size)) (omega (arith, k, c.self.invariant.size))

pub loop-ids-smaller : goal.loop-ids-smaller
loop-ids-smaller c = fewer_left (words_of c.self.inside.nodes.items) c.loop-ids.at c.next_of-at.result (next (goal.at.loop-ids-smaller c).After-next_of-at) (omega (arith, c.if-at-eq0.false))

pub loop-ids-preserved : goal.loop-ids-preserved
loop-ids-preserved c =
    let here = (goal.at.loop-ids-preserved c).After-next_of-at in
    walk_next (words_of c.self.inside.nodes.items) (different here) c.loop-ids.at c.next_of-at.result c.if-index-eq0.ids.items (visited here) (next here) (omega (arith, c.if-at-eq0.false))

pub returns : goal.returns
returns c =
    let here = (goal.at.returns c).After-next_of-at in
    let ends : AreEnds c.args.self.now.words c.if-index-eq0.ids.items =
    subst (λ (w : Words). AreEnds w.words c.if-index-eq0.ids.items) c.self.view_is
    (walk_all (words_of c.self.inside.nodes.items) (different here) c.loop-ids.at c.if-index-eq0.ids.items (visited here) (rw (c.if-at-eq0.true) at (next here))) in
    record { ends = ends; prefixes = ends_cover c.args.self.now.words c.if-index-eq0.ids.items ends }
