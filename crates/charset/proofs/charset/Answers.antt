use Rattle.std.proofs.Common.{◌≡◌, map}
use Rattle.fsm_core.specs.Machine.{state_after}
use Rattle.word_pool.specs.Words.{words_at}
use Rattle.word_pool.proofs.CallerLemmas.{words_kept}
use Rattle.charset.specs.inside.Levels.{answer_at}
use Rattle.suite_words.specs.Marks.{AreMarksBy}
use Rattle.charset.proofs.Marking.{marks_are, states_are}
use Rattle.charset.proofs.charset.Goals as goal
use Rattle.charset.proofs.charset.Goals.{After-as_slice}

states_is : (c : After-as_slice) → c.in_ok-states.states.items ≡ map (state_after c.args.fsm.now 0) (words_at c.args.pool.now.words c.args.cover.now)
states_is c = rw (c.words.ensures) at c.in_ok-states.ensures.states

pub marks_of-requires-clause-states : goal.marks_of-requires-clause-states
marks_of-requires-clause-states c =
    rw (c.as_slice.ensures.value)
    (states_are c.args.fsm.now (words_at c.args.pool.now.words c.args.cover.now) c.requires.cover
    c.in_ok-states.states.items (states_is (goal.at.marks_of-requires-clause-states c).After-as_slice)
    c.in_ok-states.ensures.inside)

pub returns-clause-marks : goal.returns-clause-marks
returns-clause-marks c =
    let m = c.args.fsm.now in
    let old = c.args.pool.now.words in
    let new = c.marks_of.new.pool.words in
    let marks = words_at new c.in_ok-words.words.items in
    let h : AreMarksBy (answer_at m c.in_ok-states.states.items) m.states m.letters marks = rw (c.as_slice.ensures.value) at c.in_ok-words.ensures.marks in
    rw (words_kept old new c.in_ok-words.ensures.keeps c.args.cover.now c.requires.ids)
    (marks_are m (words_at old c.args.cover.now) c.requires.cover c.in_ok-states.states.items
    (states_is (goal.at.returns-clause-marks c).After-as_slice) marks h)

pub states_of-requires-clause-words : goal.states_of-requires-clause-words
states_of-requires-clause-words c = rw (c.words.ensures) (λ k d h. (c.requires.cover.least.only k d h).letters)
