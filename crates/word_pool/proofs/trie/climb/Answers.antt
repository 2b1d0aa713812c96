use Rattle.word_pool.proofs.trie.climb.Goals as goal

pub loop-at-preserved : goal.loop-at-preserved
loop-at-preserved c = record {
  child = c.requires.linked.next _ _ c.loop-at.invariant.child;
  below = λ _. c.loop-at-test.ensures.1;
}
