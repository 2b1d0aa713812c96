use Rattle.word_pool.specs.Trie.{words_of}
use Rattle.word_pool.proofs.Walking.{IsWalked, left_after}
use Rattle.word_pool.proofs.Pool.walk.Given as goal

abbrev pub invariant-loop-ids : goal.invariant-loop-ids
invariant-loop-ids l = IsWalked (words_of l.self-inside.nodes.items) l.at l.ids.items

abbrev pub decreases-loop-ids : goal.decreases-loop-ids
decreases-loop-ids l = left_after (words_of l.self-inside.nodes.items) l.at
