use Rattle.std.proofs.Common.{◌≡◌, ℕ, ◌<◌, List, length, get_or, replicate, ap, ◌∙◌, arith}
use Rattle.std.proofs.lemmas.List.{get_or-replicate, length-replicate}
use Rattle.charset.specs.inside.Levels.{AreAlikeOnAll, IsGrouping}
use Rattle.charset.proofs.Grouping.{leaders_upto}
use Rattle.charset.proofs.Leveling.{leveling_all, leveling_first, leveling_more}
use Rattle.charset.proofs.levels.levels_of.Goals as goal

pub loop-alloc-init : goal.loop-alloc-init
loop-alloc-init c =
    let m = c.args.fsm.now in
    let n = c.states.result in
    let items : List ℕ = c.in_ok-names.names.items in
    let e : c.in_ok-names.names.items ≡ replicate n 0 = c.in_ok-names.ensures.items_if_clones_equal (λ y h. h) in
    let size : length c.in_ok-names.names.items ≡ m.states = ap (λ (x : List ℕ). length x) e ∙ (length-replicate n 0 ∙ c.states.ensures.count) in
    let zeros : (s : ℕ) → s < m.states → get_or c.in_ok-names.names.items s 0 ≡ 0 =
    λ s h. ap (λ (x : List ℕ). get_or x s 0) e ∙ get_or-replicate n s 0 0 (omega (arith, h, c.states.ensures.count)) in
    rw (c.in_ok-all.ensures.items, c.as_slice.ensures.value) (leveling_first m items size zeros c.states.ensures.sound.some_states)

pub loop-alloc-preserved : goal.loop-alloc-preserved
loop-alloc-preserved c =
    let m = c.args.fsm.now in
    let h : IsGrouping m.states c.in_ok-names-2.names.items (AreAlikeOnAll m c.loop-alloc.names.items) =
    rw (c.as_slice-in-loop-alloc-2.ensures.value) at c.in_ok-names-2.ensures in
    rw (c.in_ok-extend_from_slice.ensures.items, c.as_slice-in-loop-alloc-3.ensures.value)
    (leveling_more m c.states.ensures.sound c.requires c.loop-alloc.all.items c.loop-alloc.names.items c.loop-alloc.last c.loop-alloc.invariant
    (rw (c.as_slice-in-loop-alloc.ensures.value) at c.loop-alloc-test.ensures) c.in_ok-names-2.names.items h)

pub loop-alloc-smaller : goal.loop-alloc-smaller
loop-alloc-smaller c = omega (arith, c.loop-alloc.invariant.many, leaders_upto c.loop-alloc.names.items c.args.fsm.now.states)

pub returns : goal.returns
returns c =
    leveling_all c.args.fsm.now c.loop-alloc.all.items c.loop-alloc.names.items c.loop-alloc.last
    c.loop-alloc.invariant (rw (c.as_slice-in-loop-alloc.ensures.value) at c.loop-alloc-test.ensures)
