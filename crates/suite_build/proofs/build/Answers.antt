use Rattle.std.proofs.Common.{◌≡◌, ℕ, ◌+◌, ◌-◌, ◌*◌, ◌<◌, ◌≤◌, max, List, length, ap, sym, ◌∙◌, arith}
use Rattle.std.proofs.lemmas.List.{length-map}
use Rattle.word_pool.specs.Words.{word}
use Rattle.word_pool.specs.Words.{words_at}
use Rattle.state_cover.proofs.CallerLemmas.{cover_empty}
use Rattle.word_pool.proofs.CallerLemmas.{words_kept}
use Rattle.suite_words.specs.Tests.{AreTests}
use Rattle.suite_build.specs.inside.Entered.{letters_of}
use Rattle.suite_build.specs.Steps.{steps, words_upto}
use Rattle.suite_build.proofs.Counting.{products_few}
use Rattle.suite_build.proofs.build.Goals as goal

pub tests_of-requires-clause-empty : goal.tests_of-requires-clause-empty
tests_of-requires-clause-empty c = cover_empty c.args.fsm.now (words_at c.args.pool.now.words c.args.cover) c.requires.cover

pub tests_of-requires-clause-room : goal.tests_of-requires-clause-room
tests_of-requires-clause-room c =
    let m = c.args.fsm.now in
    let ws = c.args.pool.now.words in
    let marks = words_at ws c.args.marks in
    let cover = words_at ws c.args.cover in
    let law = c.marks_are_few_and_short.ensures in
    let sound = c.states.ensures.sound in
    let count = law.count m cover marks sound c.requires.cover c.requires.marks in
    let short = law.short m cover marks sound c.requires.cover c.requires.marks in
    let h = products_few m.states m.letters c.args.m marks sound.some_states count short in
    let size : length c.args.cover ≡ c.args.fsm.now.states = sym (length-map c.args.cover (word ws)) ∙ c.requires.cover.size in
    let told : steps c.states.result c.letters.result c.args.m ≤ 20000000 = omega (arith, c.in_ok-steps.ensures.count, c.in_ok-steps.ensures.few) in
    let few : steps c.args.fsm.now.states c.args.fsm.now.letters c.args.m ≤ 20000000 =
    rw (c.states.ensures.count, c.letters.ensures.count) at told in
    rw (c.letters-2.ensures.count, c.states-2.ensures.count, size) (omega (arith, h, few, c.requires.few))

pub returns-in-Ok-clause-tests : goal.returns-in-Ok-clause-tests
returns-in-Ok-clause-tests c =
    let old = c.args.pool.now.words in
    let new = c.tests_of.new.pool.words in
    rw (words_kept old new c.in-Ok.ensures.keeps c.args.cover c.requires.cover_ids, words_kept old new c.in-Ok.ensures.keeps c.args.marks c.requires.mark_ids)
    (rw (c.letters-2.ensures.count, c.states-2.ensures.count) at c.in-Ok.ensures.tests)
