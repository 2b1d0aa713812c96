use Rattle.std.proofs.Common.{get_or, [], take, ◌++◌, refl, arith}
use Rattle.std.proofs.lemmas.Option.{slice_get-get_or, slice_get_within}
use Rattle.word_pool.specs.Words.{word}
use Rattle.word_pool.proofs.Entering.{entering_all, entering_more, entering_none}
use Rattle.word_pool.proofs.Pool.enter.Goals as goal

pub loop-letter-init : goal.loop-letter-init
loop-letter-init c =
    let ws = c.args.self.now.words in
    entering_none ws (word ws c.args.id) c.args.letters.now c.args.id (slice_get-get_or ws c.args.id [] c.requires.id)

pub extend-requires-clause-id : goal.extend-requires-clause-id
extend-requires-clause-id c = slice_get_within c.loop-letter.self.words c.loop-letter.at
    (word c.args.self.now.words c.args.id ++ take c.loop-letter.letter-index c.args.letters.now) c.loop-letter.invariant.here

pub returns-in_err-at-clause-enters : goal.returns-in_err-at-clause-enters
returns-in_err-at-clause-enters c =
    rw (c.in_err-at.ensures.err)
    (entering_all c.args.self.now.words (word c.args.self.now.words c.args.id) c.args.letters.now c.loop-letter.self.words c.loop-letter.letter-index c.loop-letter.at c.loop-letter.invariant
    (omega (arith, c.loop-letter-test.true)))

pub loop-letter-preserved : goal.loop-letter-preserved
loop-letter-preserved c =
    entering_more c.args.self.now.words (word c.args.self.now.words c.args.id) c.args.letters.now c.loop-letter.self.words c.loop-letter.letter-index c.loop-letter.at c.loop-letter.invariant
    (omega (arith, c.loop-letter-test.true)) (get_or c.args.letters.now c.loop-letter.letter-index 0) refl c.extend.new.self.words c.in_ok-at.ensures.enters
    c.in_ok-at.ensures.keeps c.in_ok-at.at c.in_ok-at.ensures.word

pub returns-clause-enters : goal.returns-clause-enters
returns-clause-enters c =
    entering_all c.args.self.now.words (word c.args.self.now.words c.args.id) c.args.letters.now c.loop-letter.self.words c.loop-letter.letter-index c.loop-letter.at c.loop-letter.invariant
    (omega (arith, c.loop-letter.auto.letter-index-end))
