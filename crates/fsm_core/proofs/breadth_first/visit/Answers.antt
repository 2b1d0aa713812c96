use Rattle.std.proofs.Common.{◌≡◌, ap, ◌∙◌, refl, arith}
use Rattle.fsm_core.specs.Machine.{next}
use Rattle.fsm_core.proofs.Searching.{search_more, visit_found, visit_new}
use Rattle.fsm_core.proofs.breadth_first.visit.Goals as goal
use Rattle.fsm_core.proofs.breadth_first.visit.Goals.{then-not-flags-next+in_ok-push, else-not-flags-next}

pub loop-letter-preserved : goal.loop-letter-preserved
loop-letter-preserved c =
    let m = c.args.fsm.now in
    let v = c.loop-letter.invariant in
    let is : c.step-next.result.0 ≡ next m c.index.result.now.state c.loop-letter.letter = ap (λ r. r.0) c.step-next.ensures.row in
    elim c.if-not-flags-next.branch [
      | then-not-flags-next+in_ok-push w ↦ visit_new m c.step-next.ensures.sound c.args.at c.loop-letter.flags
          c.loop-letter.found.items c.loop-letter.letter c.index.result.now.state v
          (omega (arith, c.loop-letter-test.true, c.letters-letter-end.ensures.count)) c.step-next.result.0 is
          c.if-not-flags-next.flags c.if-not-flags-next.found.items w.if-not-flags-next.true
          (record { state = c.step-next.result.0; from = c.args.at; letter = c.loop-letter.letter }) refl refl refl
          w.flags-is (ap (λ v. v.items) w.found-is ∙ w.in_ok-push.ensures.items)
      | else-not-flags-next w ↦ visit_found m c.step-next.ensures.sound c.args.at c.loop-letter.flags
          c.loop-letter.found.items c.loop-letter.letter c.index.result.now.state v
          (omega (arith, c.loop-letter-test.true, c.letters-letter-end.ensures.count)) c.step-next.result.0 is
          c.if-not-flags-next.flags c.if-not-flags-next.found.items w.if-not-flags-next.false
          w.flags-is (ap (λ v. v.items) w.found-is)
    ]

pub returns : goal.returns
returns c = record {
  search = search_more c.args.fsm.now c.loop-letter.flags c.loop-letter.found.items c.args.at c.loop-letter.letter c.loop-letter.invariant.search
      (omega (arith, c.loop-letter-test.false, c.letters-letter-end.ensures.count));
}
