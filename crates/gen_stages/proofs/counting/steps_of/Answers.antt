use Rattle.std.proofs.Common.{[], length, get_or, sym, ◌∙◌, ap, ◌+◌, ◌<◌, arith}
use Rattle.std.proofs.lemmas.List.Sums.{sum_by_more}
use Rattle.std.proofs.lemmas.Option.{slice_get-get_or}
use Rattle.subject.specs.Suite.{Test}
use Rattle.gen_stages.proofs.counting.steps_of.Goals as goal

no_test : Test
no_test = record { letters = []; replies = [] }

pub loop-test-preserved : goal.loop-test-preserved
loop-test-preserved c =
    let tests = c.args.suite.now.tests in
    let inside : c.loop-test.test < length c.args.suite.now.tests = omega (arith, c.loop-test-test.true) in
    let there = slice_get-get_or tests c.loop-test.test no_test inside in
    record {
      made = c.add_test.ensures.made;
      steps = c.in-Some.ensures.sum _ there ∙ ap (λ n. n + length (get_or tests c.loop-test.test no_test).letters) c.loop-test.invariant.steps ∙ sym (sum_by_more (λ (t : Test). length t.letters) tests c.loop-test.test no_test inside);
    }
