use Rattle.std.proofs.Common.{◌≡◌, take}
use Rattle.word_pool.specs.Words.{words_at}
use Rattle.suite_build.proofs.products.letters_at.Given as goal

abbrev pub invariant-loop-id : goal.invariant-loop-id
invariant-loop-id l = l.words.items ≡ words_at l.pool.words (take l.id-index l.ids)
