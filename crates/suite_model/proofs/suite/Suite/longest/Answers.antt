use Rattle.std.proofs.Common.{◌≤◌, length, arith, ap, sym, subst}
use Rattle.std.specs.List.{All}
use Rattle.std.proofs.lemmas.List.Elements.{All-map}
use Rattle.word_pool.specs.Words.{word}
use Rattle.subject.specs.Suite.{SuiteParts, Test}
use Rattle.suite_model.specs.Pooled.{pooled_test}
use Rattle.suite_model.proofs.Reading.{longest_more, all_taken, some_test, longest_reached, longest_still}
use Rattle.suite_model.proofs.suite.Suite.longest.Goals as goal
use Rattle.suite_model.proofs.suite.Suite.longest.Goals.{then-length-most, else-length-most}

pub loop-test-preserved : goal.loop-test-preserved
loop-test-preserved c = record {
  bounded = longest_more (λ i. length (word c.self.inside.pool.words i)) c.self.inside.tests.items c.loop-test.test-index c.test-item.result c.loop-test.most _
      (rw (← c.as_slice-test-items.ensures.value) c.loop-test-test.true) (rw (c.as_slice-test-items.ensures.value) at c.test-item.is) c.loop-test.invariant.bounded
      (elim c.if-length-most.branch [ then-length-most w ↦ omega arith | else-length-most w ↦ omega arith ])
      (elim c.if-length-most.branch [ then-length-most w ↦ omega (arith, c.length-length.ensures) | else-length-most w ↦ omega (arith, c.length-length.ensures) ]);
  reached = (elim c.if-length-most.branch [
    | then-length-most w ↦ longest_still (λ i. length (word c.self.inside.pool.words i)) c.self.inside.tests.items c.loop-test.test-index c.test-item.result _
        (rw (← c.as_slice-test-items.ensures.value) c.loop-test-test.true) (rw (c.as_slice-test-items.ensures.value) at c.test-item.is) (omega (arith, c.length-length.ensures))
    | else-length-most w ↦ (c.loop-test.invariant.reached.0, (c.loop-test.invariant.reached.1.0, omega (arith, c.loop-test.invariant.reached.1.1)))
  ]);
}

pub returns : goal.returns
returns c = record {
  bound = subst (All (λ (t : Test). length t.letters ≤ c.loop-test.most)) (ap (λ (p : SuiteParts). p.tests) c.self.view_is)
      (All-map (λ (t : Test). length t.letters ≤ c.loop-test.most) (λ i. pooled_test c.self.inside.pool.words c.self.inside.replies (word c.self.inside.pool.words i)) c.self.inside.tests.items
      (all_taken (λ i. length (word c.self.inside.pool.words i) ≤ c.loop-test.most) c.self.inside.tests.items c.loop-test.test-index (rw (← c.as_slice-test-items.ensures.value) (omega arith)) c.loop-test.invariant.bounded));
  reached = longest_reached c.self.inside.pool.words c.self.inside.replies c.self.inside.tests.items c.args.self.now.tests c.loop-test.most (ap (λ (p : SuiteParts). p.tests) c.self.view_is) c.loop-test.invariant.reached;
}

pub loop-test-init : goal.loop-test-init
loop-test-init c = record {
  bounded = λ k d h. absurd (omega (arith, h));
  reached = longest_still (λ i. length (word c.self.inside.pool.words i)) c.self.inside.tests.items 0 c.index.result.now _ (some_test c.self.invariant.0 c.self.invariant.1) c.index.ensures (sym c.length-most.ensures);
}
