use Rattle.std.proofs.Common.{◌≡◌, take}
use Rattle.suite_model.specs.Pooled.{lists}
use Rattle.word_pool.specs.Words.{words_at}
use Rattle.concretise.proofs.copying.lists_at.Given as goal

abbrev pub invariant-loop-id : goal.invariant-loop-id
invariant-loop-id l = lists l.words.items ≡ words_at l.pool.words (take l.id-index l.ids)
