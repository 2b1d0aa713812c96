use Rattle.std.proofs.Common.{◌∙◌, arith}
use Rattle.word_pool.specs.Trie.{node_at, IsChild}
use Rattle.word_pool.proofs.Rings.{place_up, child_of}
use Rattle.word_pool.proofs.trie.place_of.Goals as goal

pub bounds-nodes-first : goal.bounds-nodes-first
bounds-nodes-first c = (c.requires.linked.next _ _ c.climb-last.ensures.child).inside

pub climb-requires-2-clause-root : goal.climb-requires-2-clause-root
climb-requires-2-clause-root c = (c.requires.linked.next _ _ c.climb-last.ensures.child).not_root

pub climb-requires-2-clause-inside : goal.climb-requires-2-clause-inside
climb-requires-2-clause-inside c = (c.requires.linked.next _ _ c.climb-last.ensures.child).inside

pub returns : goal.returns
returns c =
    let ns = c.args.nodes.now in
    let named : IsChild ns c.args.parent (node_at ns c.args.parent).child = c.requires.linked.named c.args.parent (omega (arith, c.if-child-eq0.false)) in
    let first = c.requires.linked.next _ _ c.climb-last.ensures.child in
    place_up ns c.args.parent c.args.letter c.climb-2.result (child_of ns _ c.args.parent c.climb-2.result c.climb-2.ensures.child (first.parent ∙ named.parent))
    (c.climb-2.ensures.below c.if-letter-nodes.false) c.climb-2.ensures.stops
