use Rattle.std.proofs.Common.{◌-◌}
use Rattle.word_pool.specs.Trie.{node_at}
use Rattle.word_pool.proofs.Rings.{IsClimbing}
use Rattle.word_pool.proofs.trie.climb.Given as goal

abbrev pub invariant-loop-at : goal.invariant-loop-at
invariant-loop-at l = IsClimbing l.nodes l.from l.letter l.at

abbrev pub decreases-loop-at : goal.decreases-loop-at
decreases-loop-at l = l.letter - (node_at l.nodes l.at).letter
