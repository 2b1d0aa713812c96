use Rattle.std.proofs.Common.{ℕ, List, ◌++◌, sym, subst, arith}
use Rattle.state_cover.specs.Cover.{IsCover}
use Rattle.suite_build.proofs.CallerLemmas.{new_pool, prefixes_of_both}
use Rattle.word_pool.specs.Words.{words_at, ArePrefixesOf}
use Rattle.word_pool.proofs.CallerLemmas.{ids_kept, words_kept}
use Rattle.machine_tests.proofs.tests.building.built.Goals as goal

pub build-requires-clause-cover_ids : goal.build-requires-clause-cover_ids
build-requires-clause-cover_ids c = ids_kept c.cover.new.pool.words c.charset.new.pool.words
    c.in_ok-marks.ensures.keeps c.in_ok-words.words c.in_ok-words.ensures.ids

pub build-requires-clause-cover : goal.build-requires-clause-cover
build-requires-clause-cover c =
    subst (IsCover c.args.fsm.now) (sym (words_kept c.cover.new.pool.words c.charset.new.pool.words
    c.in_ok-marks.ensures.keeps c.in_ok-words.words c.in_ok-words.ensures.ids)) c.in_ok-words.ensures.cover

-- the pool with cover and marks has only their prefixes
pub build-requires-clause-front : goal.build-requires-clause-front
build-requires-clause-front c =
    let covered = c.cover.new.pool.words in
    let marked = c.charset.new.pool.words in
    let cover = c.in_ok-words.words in
    subst (λ (ws : List (List ℕ)). ArePrefixesOf marked (ws ++ words_at marked c.in_ok-marks.marks))
    (sym (words_kept covered marked c.in_ok-marks.ensures.keeps cover c.in_ok-words.ensures.ids))
    (prefixes_of_both (words_at covered cover) (words_at marked c.in_ok-marks.marks) c.args.pool.now.words covered marked
    (subst (λ (ws : List (List ℕ)). ArePrefixesOf ws (words_at covered cover)) (sym c.requires.empty)
    (new_pool (words_at covered cover) (omega (arith, c.states-states.ensures.sound.some_states, c.in_ok-words.ensures.cover.size))))
    c.in_ok-words.ensures.keeps c.in_ok-words.ensures.only c.in_ok-marks.ensures.keeps c.in_ok-marks.ensures.only)
