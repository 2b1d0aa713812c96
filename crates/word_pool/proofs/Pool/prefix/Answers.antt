use Rattle.std.proofs.Common.{◌<◌, length, ap, arith}
use Rattle.std.proofs.lemmas.List.{get_or_read}
use Rattle.word_pool.specs.Words.{Words}
use Rattle.word_pool.specs.Trie.{no_node, words_of}
use Rattle.word_pool.proofs.Paths.{front_more, front_found}
use Rattle.word_pool.proofs.Pool.prefix.Goals as goal

pub loop-self-preserved : goal.loop-self-preserved
loop-self-preserved c =
    let ns = c.self.inside.nodes.items in
    let f = c.loop-self.invariant in
    let within : c.loop-self.at < length ns = omega (arith, f.inside, c.self.invariant.size) in
    let depth = ap (λ n. n.depth) (get_or_read ns c.loop-self.at c.index.result.now within c.index.ensures no_node) in
    let parent = ap (λ n. n.parent) (get_or_read ns c.loop-self.at c.index-in-loop-self.result.now within c.index-in-loop-self.ensures no_node) in
    rw (parent) (front_more ns (words_of ns) c.self.invariant c.args.id c.args.count c.loop-self.at f (omega (arith, c.loop-self-test.true, depth, c.self.invariant.depths c.loop-self.at within))).1.0

pub returns-clause-word : goal.returns-clause-word
returns-clause-word c =
    let ns = c.self.inside.nodes.items in
    let f = c.loop-self.invariant in
    let within : c.loop-self.at < length ns = omega (arith, f.inside, c.self.invariant.size) in
    let depth = ap (λ n. n.depth) (get_or_read ns c.loop-self.at c.index.result.now within c.index.ensures no_node) in
    front_found (words_of ns) c.args.self.now.words c.args.id c.args.count c.loop-self.at (ap (λ (w : Words). w.words) c.self.view_is) f
    (omega (arith, c.loop-self-test.false, depth, c.self.invariant.depths c.loop-self.at within))
