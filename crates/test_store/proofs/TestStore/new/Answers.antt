use Rattle.test_store.proofs.Entering.{stored_first, letters_first}
use Rattle.test_store.proofs.TestStore.new.Goals as goal

pub invariant_of-result : goal.invariant_of-result
invariant_of-result c = (
  stored_first _ _ _ _ c.words-count.ensures.pooled c.in_ok-pool.ensures c.new-3.ensures.items c.new-2.ensures.items c.root-at.ensures.first,
  letters_first _ _ c.new-2.ensures.items,
)
