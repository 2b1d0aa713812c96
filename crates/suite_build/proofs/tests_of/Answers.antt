use Rattle.std.proofs.Common.{◌≡◌, ℕ, ◌<◌, List, length, ap, sym, ◌∙◌, arith}
use Rattle.std.proofs.lemmas.List.{length-map}
use Rattle.word_pool.specs.Words.{word, Keeps}
use Rattle.word_pool.specs.Words.{words_at}
use Rattle.suite_build.specs.inside.Entered.{AreEntered}
use Rattle.suite_words.specs.Tests.{IsProduct}
use Rattle.suite_build.proofs.Exact.{tests_exact}
use Rattle.suite_build.proofs.tests_of.Goals as goal

pub returns-clause-tests : goal.returns-clause-tests
returns-clause-tests c =
    let old = c.args.pool.now.words in
    let new = c.enter_all.new.pool.words in
    let marks : c.in_ok-words.words.items ≡ words_at c.args.pool.now.words c.args.marks.now =
    rw (c.in_ok-reserve.ensures.words, c.words.ensures) at c.in_ok-words.ensures in
    let e : AreEntered c.args.pool.now.words (IsProduct c.args.letters (words_at c.args.pool.now.words
    c.args.cover.now) (words_at c.args.pool.now.words c.args.marks.now) c.args.depth)
    c.enter_all.new.pool.words =
    rw (c.in_ok-reserve.ensures.words, c.words-2.ensures, c.as_slice.ensures.value, marks) at c.in_ok-enter_all.ensures.entered in
    let keeps : Keeps c.args.pool.now.words c.enter_all.new.pool.words = rw (c.in_ok-reserve.ensures.words) at c.in_ok-enter_all.ensures.keeps in
    let some : 0 < length (words_at c.args.pool.now.words c.args.marks.now) = omega
    (arith, c.requires.some, length-map c.args.marks.now (word c.args.pool.now.words)) in
    tests_exact old new c.args.letters (words_at old c.args.cover.now) (words_at old c.args.marks.now) c.args.depth
    keeps e c.requires.front c.requires.empty some
    c.in_ok-tests.tests.items c.in_ok-tests.ensures.ends
