use Rattle.std.proofs.Common.{◌≡◌, ◌+◌, ◌-◌, ◌<◌, length, ap, arith}
use Rattle.std.proofs.lemmas.List.{get_or_read}
use Rattle.word_pool.specs.Words.{Words, word}
use Rattle.word_pool.specs.Trie.{no_node, words_of}
use Rattle.word_pool.proofs.Paths.{IsPut, put_more}
use Rattle.word_pool.proofs.Pool.letters.Goals as goal

pub loop-place-preserved : goal.loop-place-preserved
loop-place-preserved c =
    let ns = c.self.inside.nodes.items in
    let p = c.loop-place.invariant in
    let one : c.loop-place.place ≡ (c.loop-place.place - 1) + 1 = omega (arith, c.loop-place-test.true) in
    let within : c.loop-place.at < length ns = omega (arith, p.inside, c.self.invariant.size) in
    let read = get_or_read ns c.loop-place.at c.index-node.result.now within c.index-node.ensures no_node in
    let p' : IsPut (words_of ns) c.args.id c.index.result.now.depth ((c.loop-place.place - 1) + 1) c.loop-place.at c.args.into.now c.loop-place.into = rw (one) at p in
    rw (ap (λ n. n.letter) read, ap (λ n. n.parent) read)
    (put_more ns (words_of ns) c.self.invariant c.args.id c.index.result.now.depth (c.loop-place.place - 1) c.loop-place.at c.args.into.now c.loop-place.into p'
    (omega (arith, c.loop-place-test.true, p.upto, p.size, c.requires.room, ap (λ (w : Words). length (word w.words c.args.id)) c.self.view_is))).1
