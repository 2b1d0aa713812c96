use Rattle.word_pool.specs.Trie.{words_of}
use Rattle.word_pool.proofs.Paths.{IsPut}
use Rattle.word_pool.proofs.Pool.letters.Given as goal

abbrev pub invariant-loop-place : goal.invariant-loop-place
invariant-loop-place l = IsPut (words_of l.self-inside.nodes.items) l.fn.id l.count l.place l.at l.fn.into l.into

abbrev pub decreases-loop-place : goal.decreases-loop-place
decreases-loop-place l = l.place
