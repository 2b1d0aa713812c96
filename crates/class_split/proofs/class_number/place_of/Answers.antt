use Rattle.std.proofs.Common.{◌≡◌, ◌+◌, ◌-◌, ◌/◌, ◌<◌, ◌∙◌, length, ap, sym, arith}
use Rattle.std.specs.Prelude.{Some, slice_get}
use Rattle.std.proofs.lemmas.List.{length-map}
use Rattle.input_classes.specs.declared.class.Class.{Class}
use Rattle.class_split.specs.inside.Places.{patterns_of}
use Rattle.class_split.proofs.Places.{StandsBetween-after, StandsBetween-before, StandsBetween-one, pattern_at}
use Rattle.class_split.proofs.class_number.place_of.Goals as goal

pub is_before-requires : goal.is_before-requires
is_before-requires c =
    let classes = c.args.classes.now in
    let m = c.loop-to.from + (c.loop-to.to - c.loop-to.from) / 2 in
    let size = length-map classes (λ (k : Class). k.pattern) in
    let h : m < length classes = omega (arith, c.loop-to.invariant.limit, c.loop-to.invariant.below, c.loop-to-test.true, size) in
    sym (ap length c.as_slice.ensures ∙ c.requires.same m c.index-classes-middle.result h)

pub loop-to-preserved-then-is_before : goal.loop-to-preserved-then-is_before
loop-to-preserved-then-is_before c =
    let classes = c.args.classes.now in
    let from = c.loop-to.from in
    let to = c.loop-to.to in
    let m = from + (to - from) / 2 in
    let size = length-map classes (λ (k : Class). k.pattern) in
    let h : m < length classes = omega (arith, c.loop-to.invariant.limit, c.loop-to.invariant.below, c.loop-to-test.true, size) in
    let at : slice_get (patterns_of classes) m ≡ Some c.as_slice.result.now =
    pattern_at classes m c.index-classes-middle.result h ∙ ap Some (sym c.as_slice.ensures) in
    StandsBetween-before (patterns_of classes) c.args.pattern.now c.as_slice.result.now from to m c.requires.ascending
    (omega (arith, c.loop-to-test.true)) (omega (arith, c.loop-to-test.true)) at c.if-is_before.ensures c.loop-to.invariant

pub loop-to-preserved : goal.loop-to-preserved
loop-to-preserved c =
    let classes = c.args.classes.now in
    let from = c.loop-to.from in
    let to = c.loop-to.to in
    let m = from + (to - from) / 2 in
    let size = length-map classes (λ (k : Class). k.pattern) in
    let h : m < length classes = omega (arith, c.loop-to.invariant.limit, c.loop-to.invariant.below, c.loop-to-test.true, size) in
    let at : slice_get (patterns_of classes) m ≡ Some c.as_slice.result.now =
    pattern_at classes m c.index-classes-middle.result h ∙ ap Some (sym c.as_slice.ensures) in
    StandsBetween-after (patterns_of classes) c.args.pattern.now c.as_slice.result.now from to m c.requires.ascending
    (omega (arith, c.loop-to-test.true)) at c.if-is_before.ensures c.loop-to.invariant

pub returns : goal.returns
returns c =
    StandsBetween-one (patterns_of c.args.classes.now) c.args.pattern.now c.loop-to.from c.loop-to.to c.requires.there
    (omega (arith, c.loop-to-test.false)) c.loop-to.invariant
