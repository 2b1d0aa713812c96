use Rattle.word_pool.specs.Trie.{words_of}
use Rattle.word_pool.proofs.Following.{IsLeft}
use Rattle.word_pool.proofs.trie.next_of.Given as goal

abbrev pub invariant-loop-at : goal.invariant-loop-at
invariant-loop-at l = IsLeft (words_of l.nodes) l.number l.at

abbrev pub decreases-loop-at : goal.decreases-loop-at
decreases-loop-at l = l.at
