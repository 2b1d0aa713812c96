use Rattle.std.proofs.Common.{◌≡◌, ℕ, ◌<◌, List, [], length, get_or, replicate, ap, ◌∙◌, arith}
use Rattle.std.proofs.lemmas.List.{get_or-replicate, length-replicate, length-map, length_push}
use Rattle.std.proofs.lemmas.Option.{get_or_from_slice_get}
use Rattle.word_pool.specs.Words.{word}
use Rattle.word_pool.proofs.CallerLemmas.{keeps_on}
use Rattle.charset.specs.inside.Levels.{AreAlikeBy, IsFirstPair, IsGrouping, IsLeastApart}
use Rattle.charset.proofs.Grouping.{leaders_upto}
use Rattle.charset.proofs.Marking.{charting_first, charting_more, grown_by, marking_all, room_left}
use Rattle.charset.proofs.marks_of.Goals as goal

pub loop-first-init : goal.loop-first-init
loop-first-init c =
    let m = c.args.fsm.now in
    let n = c.states.result in
    let e : c.in_ok-names.names.items ≡ replicate n 0 = c.in_ok-names.ensures.items_if_clones_equal (λ y h. h) in
    let size : length c.in_ok-names.names.items ≡ m.states = ap (λ (x : List ℕ). length x) e ∙ (length-replicate n 0 ∙ c.states.ensures.count) in
    let zeros : (s : ℕ) → s < m.states → get_or c.in_ok-names.names.items s 0 ≡ 0 =
    λ s h. ap (λ (x : List ℕ). get_or x s 0) e ∙ get_or-replicate n s 0 0 (omega (arith, h, c.states.ensures.count)) in
    rw (c.new-words.ensures.items) (charting_first m c.args.states.now c.in_ok-names.names.items c.args.pool.now.words
    size zeros c.states.ensures.sound.some_states)

pub enter-requires-clause-few : goal.enter-requires-clause-few
enter-requires-clause-few c =
    let m = c.args.fsm.now in
    let i = c.loop-first.invariant in
    rw (c.as_slice-in-Some-3.ensures.value)
    (room_left m c.states.ensures.sound c.args.states.now c.args.pool.now.words c.loop-first.pool.words
    c.loop-first.words.items c.loop-first.names.items c.loop-first.from i
    c.requires.few (length c.in_ok-word.word.items) c.in_ok-word.ensures.short)

pub returns-in_err-enter-clause-keeps : goal.returns-in_err-enter-clause-keeps
returns-in_err-enter-clause-keeps c =
    keeps_on c.args.pool.now.words c.loop-first.pool.words c.enter.new.self.words c.loop-first.invariant.keeps c.in_err-enter.ensures.keeps

pub loop-first-smaller : goal.loop-first-smaller
loop-first-smaller c =
    let m = c.args.fsm.now in
    let i = c.loop-first.invariant in
    let low : length c.loop-first.words.items < m.states =
    omega (arith, i.marking.many, length-map c.loop-first.words.items (word c.loop-first.pool.words), leaders_upto c.loop-first.names.items m.states) in
    omega (arith, low, ap (λ (x : List ℕ). length x) c.in_ok-push.ensures.items, length_push c.loop-first.words.items c.in_ok-enter.field-0)

pub loop-first-preserved : goal.loop-first-preserved
loop-first-preserved c =
    let m = c.args.fsm.now in
    let qs = c.args.states.now in
    let i = c.loop-first.invariant in
    let names = c.loop-first.names.items in
    let w = c.in_ok-word.word.items in
    let p = c.in-Some.first in
    let q = c.in-Some.second in
    let pair : IsFirstPair c.loop-first.names.items c.loop-first.from c.in-Some.first c.in-Some.second = rw (c.as_slice.ensures.value) at c.in-Some.ensures in
    let apart : IsLeastApart c.args.fsm.now (get_or c.args.states.now c.in-Some.first 0) (get_or c.args.states.now c.in-Some.second 0) c.in_ok-word.word.items =
    c.in_ok-word.ensures.least in
    let g : IsGrouping (length c.args.states.now) c.in_ok-names-2.names.items
    (AreAlikeBy c.args.fsm.now c.args.states.now c.loop-first.names.items c.in_ok-word.word.items) =
    rw (c.as_slice-in-Some.ensures.value, c.as_slice-in-Some-2.ensures.value) at c.in_ok-names-2.ensures in
    let empty : word c.loop-first.pool.words c.root-root.result ≡ [] = get_or_from_slice_get c.loop-first.pool.words
    c.root-root.result [] [] c.root-root.ensures.empty in
    rw (c.in_ok-push.ensures.items)
    (charting_more m c.states.ensures.sound qs names c.requires.states c.args.pool.now.words c.loop-first.pool.words
    c.loop-first.words.items c.loop-first.from i p q pair w apart
    c.in_ok-word.ensures.short c.in_ok-names-2.names.items g c.enter.new.self.words c.in_ok-enter.field-0
    (rw (empty, c.as_slice-in-Some-3.ensures.value) at c.in_ok-enter.ensures.word) c.in_ok-enter.ensures.keeps
    (rw (empty, c.as_slice-in-Some-3.ensures.value) at c.in_ok-enter.ensures.enters))

pub returns-clause-marks : goal.returns-clause-marks
returns-clause-marks c =
    marking_all c.args.fsm.now c.args.states.now c.loop-first.names.items _ c.loop-first.from c.loop-first.invariant.marking
    (rw (c.as_slice.ensures.value) at c.in_default.ensures) c.requires.many

pub returns-clause-grown : goal.returns-clause-grown
returns-clause-grown c =
    grown_by c.args.fsm.now c.states.ensures.sound c.args.states.now c.args.pool.now.words c.loop-first.pool.words
    c.loop-first.words.items c.loop-first.names.items c.loop-first.from
    c.loop-first.invariant

pub returns-clause-count : goal.returns-clause-count
returns-clause-count c =
    omega (
      arith,
      c.loop-first.invariant.marking.many,
      length-map c.loop-first.words.items
          (word c.loop-first.pool.words),
      leaders_upto c.loop-first.names.items c.args.fsm.now.states,
    )
