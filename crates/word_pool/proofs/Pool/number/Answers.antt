use Rattle.std.proofs.Common.{ap}
use Rattle.word_pool.specs.Words.{Words}
use Rattle.word_pool.specs.Trie.{words_of}
use Rattle.word_pool.proofs.Nodes.{prefix_lower_by}
use Rattle.word_pool.proofs.Pool.number.Goals as goal

pub returns-clause-prefix_lower : goal.returns-clause-prefix_lower
returns-clause-prefix_lower c =
    prefix_lower_by c.self.inside.nodes.items (words_of c.self.inside.nodes.items) c.self.invariant c.args.self.now.words c.id.inside.number c.args.id
    (ap (λ (w : Words). w.words) c.self.view_is) c.id.view_is c.requires
