use Rattle.std.proofs.Common.{◌≡◌, ℕ, ◌<◌, List, [], length, get_or, arith}
use Rattle.std.proofs.lemmas.List.{get_or_read}
use Rattle.suite_build.proofs.Entered.{marking_more, marking_none}
use Rattle.suite_build.proofs.products.enter_marks.Goals as goal

pub loop-mark-init : goal.loop-mark-init
loop-mark-init c = marking_none c.args.pool.now.words c.args.at c.args.marks.now

pub loop-mark-preserved : goal.loop-mark-preserved
loop-mark-preserved c =
    let h : c.loop-mark.mark-index < length c.args.marks.now = omega (arith, c.loop-mark-test.true) in
    let is : c.mark-item.result ≡ get_or c.args.marks.now c.loop-mark.mark-index [] =
    get_or_read c.args.marks.now c.loop-mark.mark-index c.mark-item.result h c.mark-item.is [] in
    marking_more c.args.pool.now.words c.loop-mark.pool.words c.enter.new.self.words c.args.at c.args.marks.now
    c.loop-mark.mark-index c.requires.at c.loop-mark.invariant h
    c.mark-item.result is c.in_ok-enter.ensures.keeps (rw (c.as_slice.ensures) at c.in_ok-enter.ensures.enters) c.in_ok-enter.field-0
    (rw (c.as_slice.ensures) at c.in_ok-enter.ensures.word)
