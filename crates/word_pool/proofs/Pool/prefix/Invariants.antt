use Rattle.word_pool.specs.Trie.{words_of}
use Rattle.word_pool.proofs.Paths.{IsFront}
use Rattle.word_pool.proofs.Pool.prefix.Given as goal

abbrev pub invariant-loop-self : goal.invariant-loop-self
invariant-loop-self l = IsFront (words_of l.self-inside.nodes.items) l.fn.id l.count l.at

abbrev pub decreases-loop-self : goal.decreases-loop-self
decreases-loop-self l = l.at
