use Rattle.std.proofs.Common.{◌≡◌, get_or, refl}
use Rattle.std.proofs.lemmas.List.Elements.{at_read}
use Rattle.lin_form.specs.declared.literal.Literal.{Literal}
use Rattle.class_split.proofs.Regions.{IsReducedSoFar-start, IsReducedSoFar-push, IsReducedSoFar-skip, IsReducedSoFar-all}
use Rattle.class_split.proofs.region.reduced.Goals.{then-is_new+in_ok-clone+in_ok-push, else-is_new}
use Rattle.class_split.proofs.region.reduced.Goals as goal

pub loop-index-init : goal.loop-index-init
loop-index-init c = IsReducedSoFar-start c.args.part.now c.args.literals.now c.args.first.items

pub loop-index-preserved : goal.loop-index-preserved
loop-index-preserved c =
    let ls = c.args.literals.now in
    let i = c.loop-index.index in
    let l = c.index-literals-index.result in
    let at : (d : Literal) → get_or ls i d ≡ l = at_read ls (λ m. m ≡ l) i l c.loop-index-test.true c.index-literals-index.is refl in
    elim c.if-is_new.branch [
      | then-is_new+in_ok-clone+in_ok-push w ↦
          (let m = w.index-literals-index-then-is_new.result in
          let at-2 : (d : Literal) → get_or ls i d ≡ m = at_read ls (λ n. n ≡ m) i m c.loop-index-test.true w.index-literals-index-then-is_new.is refl in
          rw (w.first-is, w.in_ok-push.ensures.items, w.in_ok-clone.ensures.cases) (IsReducedSoFar-push c.args.part.now ls c.args.first.items c.loop-index.first.items i m c.loop-index-test.true at-2 c.requires c.loop-index.invariant))
      | else-is_new w ↦ rw (w.first-is) (IsReducedSoFar-skip c.args.part.now ls c.args.first.items c.loop-index.first.items i l at (rw (c.as_slice.ensures.value) at w.if-is_new.ensures) c.loop-index.invariant)
    ]

pub returns : goal.returns
returns c = IsReducedSoFar-all c.args.part.now c.args.literals.now c.args.first.items c.loop-index.first.items c.loop-index.index c.loop-index-test.false c.loop-index.auto.index-end c.loop-index.invariant
