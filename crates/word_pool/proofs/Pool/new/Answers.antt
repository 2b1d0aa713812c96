use Rattle.std.proofs.Common.{[], ◌∷◌, ◌++◌, ◌∙◌, ap, List}
use Rattle.word_pool.specs.declared.trie.Node.{Node}
use Rattle.word_pool.specs.Trie.{no_node}
use Rattle.word_pool.proofs.Nodes.{words_new, trie_new}
use Rattle.word_pool.proofs.Pool.new.Goals as goal

pub invariant_of-result : goal.invariant_of-result
invariant_of-result c = trie_new _ (c.in_ok-push.ensures.items ∙ ap (λ (x : List Node). x ++ no_node ∷ []) c.new-nodes.ensures.items)

pub returns : goal.returns
returns c = words_new _ (c.in_ok-push.ensures.items ∙ ap (λ (x : List Node). x ++ no_node ∷ []) c.new-nodes.ensures.items)
