use Rattle.std.proofs.Common.{subst}
use Rattle.word_pool.specs.Words.{Words, ArePooled}
use Rattle.word_pool.specs.Trie.{words_of}
use Rattle.word_pool.proofs.Nodes.{pooled}
use Rattle.word_pool.proofs.Pool.words.Goals as goal

pub returns-clause-pooled : goal.returns-clause-pooled
returns-clause-pooled c = subst (λ (w : Words). ArePooled w.words) c.self.view_is (pooled c.self.inside.nodes.items (words_of c.self.inside.nodes.items) c.self.invariant)
