use Rattle.suite_making.proofs.Pooling.{cover_kept, front, words_all}
use Rattle.suite_making.specs.inside.Words.{AreWordsOf}
use Rattle.std.proofs.Common.{ℕ, List, sym, subst}
use Rattle.word_pool.proofs.CallerLemmas.{ids_kept}
use Rattle.suite_making.proofs.words.words_of.Goals as goal

pub build-requires-clause-cover_ids : goal.build-requires-clause-cover_ids
build-requires-clause-cover_ids c = ids_kept c.cover.new.pool.words c.charset.new.pool.words c.in_ok-marks.ensures.keeps c.in_ok-words.words c.in_ok-words.ensures.ids

pub build-requires-clause-cover : goal.build-requires-clause-cover
build-requires-clause-cover c = cover_kept c.args.fsm.now c.cover.new.pool.words c.charset.new.pool.words c.in_ok-marks.ensures.keeps c.in_ok-words.words c.in_ok-words.ensures.ids c.in_ok-words.ensures.cover

pub build-requires-clause-front : goal.build-requires-clause-front
build-requires-clause-front c =
    front c.args.fsm.now c.args.pool.now.words c.cover.new.pool.words c.charset.new.pool.words c.in_ok-words.words c.in_ok-marks.marks c.requires.empty c.states.ensures.sound.some_states
    c.in_ok-words.ensures.ids c.in_ok-words.ensures.cover c.in_ok-words.ensures.keeps c.in_ok-words.ensures.only c.in_ok-marks.ensures.keeps c.in_ok-marks.ensures.only

pub returns-clause-words : goal.returns-clause-words
returns-clause-words c =
    let g = c.args.fsm.now in
    let mid = c.charset.new.pool.words in
    let new = c.build.new.pool.words in
    let keeps = c.in_ok-marks.ensures.keeps in
    let ids = ids_kept c.cover.new.pool.words mid keeps c.in_ok-words.words c.in_ok-words.ensures.ids in
    let cover = cover_kept g c.cover.new.pool.words mid keeps c.in_ok-words.words c.in_ok-words.ensures.ids c.in_ok-words.ensures.cover in
    let all : AreWordsOf c.args.fsm.now c.args.bound c.build.new.pool.words c.in_ok-words.words c.in_ok-marks.marks c.in_ok-letters.letters.tests.items =
    words_all g c.args.bound mid new c.in_ok-words.words c.in_ok-marks.marks c.in_ok-letters.letters.tests.items c.in_ok-letters.ensures.keeps ids c.in_ok-marks.ensures.ids c.in_ok-letters.ensures.ids
    cover c.in_ok-marks.ensures.marks c.in_ok-letters.ensures.tests c.in_ok-letters.ensures.prefixes in
    subst (λ (cs : List ℕ). AreWordsOf c.args.fsm.now c.args.bound c.build.new.pool.words cs c.in_ok-letters.letters.marks c.in_ok-letters.letters.tests.items) (sym c.in_ok-letters.ensures.cover)
    (subst (λ (ms : List ℕ). AreWordsOf c.args.fsm.now c.args.bound c.build.new.pool.words c.in_ok-words.words ms c.in_ok-letters.letters.tests.items) (sym c.in_ok-letters.ensures.marks) all)
