use Rattle.std.proofs.Common.{◌≡◌, ◌<◌, length, arith}
use Rattle.word_pool.specs.Trie.{node_at, words_of}
use Rattle.word_pool.proofs.Nodes.{is_child}
use Rattle.word_pool.proofs.Rings.{child_of}
use Rattle.word_pool.proofs.Following.{next_child, left_start, left_more, left_next, left_all}
use Rattle.word_pool.proofs.trie.next_of.Goals as goal

pub returns-then-child-gt0 : goal.returns-then-child-gt0
returns-then-child-gt0 c =
    let ns = c.args.nodes.now in
    let named = c.requires.trie.links.named c.args.number c.if-child-gt0.true in
    next_child ns (words_of ns) c.requires.trie c.args.number c.climb-last.result c.requires.inside
    (child_of ns (node_at ns (node_at ns c.args.number).child).parent c.args.number c.climb-last.result c.climb-last.ensures.child named.parent)
    (omega (arith, c.climb-last.ensures.stops))

pub loop-at-init : goal.loop-at-init
loop-at-init c = left_start c.args.nodes.now (words_of c.args.nodes.now) c.requires.trie c.args.number c.requires.inside (omega (arith, c.if-child-gt0.false))

pub bounds-nodes-here : goal.bounds-nodes-here
bounds-nodes-here c =
    let ns = c.args.nodes.now in
    let t = c.requires.trie in
    let inside : c.loop-at.at < length ns = omega (arith, c.loop-at.invariant.inside, t.size) in
    (t.links.next _ c.loop-at.at (is_child ns (words_of ns) t c.loop-at.at c.loop-at-test.true inside)).inside

pub returns-then-here-nodes : goal.returns-then-here-nodes
returns-then-here-nodes c =
    left_next c.args.nodes.now (words_of c.args.nodes.now) c.requires.trie c.args.number c.loop-at.at c.loop-at.invariant c.loop-at-test.true c.if-here-nodes.true

pub loop-at-preserved : goal.loop-at-preserved
loop-at-preserved c =
    left_more c.args.nodes.now (words_of c.args.nodes.now) c.requires.trie c.args.number c.loop-at.at c.loop-at.invariant c.loop-at-test.true c.if-here-nodes.false

pub returns : goal.returns
returns c =
    let root : c.loop-at.at ≡ 0 = omega (arith, c.loop-at-test.false) in
    left_all c.args.nodes.now (words_of c.args.nodes.now) c.requires.trie c.args.number (rw (root) at c.loop-at.invariant)
