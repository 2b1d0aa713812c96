use Rattle.word_pool.specs.Words.{word}
use Rattle.word_pool.proofs.Entering.{IsEntering}
use Rattle.word_pool.proofs.Pool.enter.Given as goal

abbrev pub invariant-loop-letter : goal.invariant-loop-letter
invariant-loop-letter l = IsEntering l.fn.self.words (word l.fn.self.words l.fn.id) l.letters l.self.words l.letter-index l.at
