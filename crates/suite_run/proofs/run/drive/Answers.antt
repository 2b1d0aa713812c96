use Rattle.std.proofs.Common.{◌∙◌, sym, arith}
use Rattle.std.proofs.lemmas.List.{length-map}
use Rattle.std.proofs.lemmas.Option.{slice_get-get_or, slice_get_within}
use Rattle.subject.specs.Suite.{test_case, tests_of}
use Rattle.test_subject.proofs.CallerLemmas.{test_there, as_many, one_for_each}
use Rattle.suite_run.proofs.Running.{stopped_lines, stopped_exchange}
use Rattle.suite_run.proofs.Testing.{keeps_both, no_test}
use Rattle.suite_run.proofs.Driving.{test_passes, test_stops, names_difference, fail_verdict, fail_sends, fail_gives, fail_exchange, pass_gives, pass_exchange}
use Rattle.suite_run.proofs.run.drive.Goals as goal

pub run_test-requires-clause-fits : goal.run_test-requires-clause-fits
run_test-requires-clause-fits g c = λ plan told. c.requires.fits plan (sym c.loop-test.invariant.keeps.plan ∙ told)

pub returns-in-Err-clause-sent : goal.returns-in-Err-clause-sent
returns-in-Err-clause-sent g c =
    let there = slice_get-get_or c.args.suite.now.tests c.loop-test.test no_test (rw c.tests-test-end.ensures at c.loop-test-test.true) in
    let stopped = c.in-Err.ensures.tries _ there in
    stopped_lines (test_stops (g.S.Subject.state c.args.subject.now) (g.S.Subject.state c.loop-test.subject) (g.S.Subject.state c.run_test.new.subject) (tests_of c.args.suite.now) c.loop-test.test _ c.loop-test.invariant.passed c.loop-test.invariant.keeps
    (test_there c.args.suite.now c.suite_keeps_rules.ensures c.loop-test.test _ there) stopped)

pub returns-in-Err-clause-stops : goal.returns-in-Err-clause-stops
returns-in-Err-clause-stops g c = λ coming told.
    let there = slice_get-get_or c.args.suite.now.tests c.loop-test.test no_test (rw c.tests-test-end.ensures at c.loop-test-test.true) in
    let stopped = c.in-Err.ensures.tries _ there in
    stopped_exchange coming (test_stops (g.S.Subject.state c.args.subject.now) (g.S.Subject.state c.loop-test.subject) (g.S.Subject.state c.run_test.new.subject) (tests_of c.args.suite.now) c.loop-test.test _ c.loop-test.invariant.passed c.loop-test.invariant.keeps
    (test_there c.args.suite.now c.suite_keeps_rules.ensures c.loop-test.test _ there) stopped) told

pub failed-requires-clause-step : goal.failed-requires-clause-step
failed-requires-clause-step g c =
    let there = slice_get-get_or c.args.suite.now.tests c.loop-test.test no_test (rw c.tests-test-end.ensures at c.loop-test-test.true) in
    let d = rw (c.in-Some.is) at (c.in-Ok.ensures.tries _ there) in
    let within = slice_get_within _ c.in-Some.difference.step d.expected d.wanted in
    let many = as_many c.args.suite.now c.suite_keeps_rules.ensures c.loop-test.test _ there in
    let count = (c.put_test-count.ensures.test _ there).size in
    omega (arith, within, many, count, c.put_test-count.type_inv)

pub returns-in-Some-clause-verdict : goal.returns-in-Some-clause-verdict
returns-in-Some-clause-verdict g c = λ plan told.
    let there = slice_get-get_or c.args.suite.now.tests c.loop-test.test no_test (rw c.tests-test-end.ensures at c.loop-test-test.true) in
    let d = rw (c.in-Some.is) at (c.in-Ok.ensures.tries _ there) in
    let even = one_for_each c.args.suite.now c.suite_keeps_rules.ensures in
    let test = test_there c.args.suite.now c.suite_keeps_rules.ensures c.loop-test.test _ there in
    rw c.failed.ensures (fail_verdict (g.S.Subject.state c.args.subject.now) (g.S.Subject.state c.loop-test.subject) (g.S.Subject.state c.run_test.new.subject) (tests_of c.args.suite.now) c.loop-test.test _ c.loop-test.invariant.passed c.loop-test.invariant.keeps test even
    c.in-Some.difference.step c.in-Some.difference.given d plan told)

pub returns-in-Some-clause-differs : goal.returns-in-Some-clause-differs
returns-in-Some-clause-differs g c =
    let there = slice_get-get_or c.args.suite.now.tests c.loop-test.test no_test (rw c.tests-test-end.ensures at c.loop-test-test.true) in
    let d = rw (c.in-Some.is) at (c.in-Ok.ensures.tries _ there) in
    let even = one_for_each c.args.suite.now c.suite_keeps_rules.ensures in
    let test = test_there c.args.suite.now c.suite_keeps_rules.ensures c.loop-test.test _ there in
    rw c.failed.ensures (names_difference (g.S.Subject.state c.args.subject.now) (g.S.Subject.state c.loop-test.subject) (g.S.Subject.state c.run_test.new.subject) (tests_of c.args.suite.now) c.loop-test.test _ c.loop-test.invariant.passed c.loop-test.invariant.keeps test even
    c.in-Some.difference.step c.in-Some.difference.given d)

pub returns-in-Some-clause-coming : goal.returns-in-Some-clause-coming
returns-in-Some-clause-coming g c =
    let there = slice_get-get_or c.args.suite.now.tests c.loop-test.test no_test (rw c.tests-test-end.ensures at c.loop-test-test.true) in
    let d = rw (c.in-Some.is) at (c.in-Ok.ensures.tries _ there) in
    let even = one_for_each c.args.suite.now c.suite_keeps_rules.ensures in
    let test = test_there c.args.suite.now c.suite_keeps_rules.ensures c.loop-test.test _ there in
    rw c.failed.ensures (fail_gives (g.S.Subject.state c.args.subject.now) (g.S.Subject.state c.loop-test.subject) (g.S.Subject.state c.run_test.new.subject) (tests_of c.args.suite.now) c.loop-test.test _ c.loop-test.invariant.passed c.loop-test.invariant.keeps test even
    c.in-Some.difference.step c.in-Some.difference.given d)

pub returns-in-Some-clause-sent : goal.returns-in-Some-clause-sent
returns-in-Some-clause-sent g c =
    let there = slice_get-get_or c.args.suite.now.tests c.loop-test.test no_test (rw c.tests-test-end.ensures at c.loop-test-test.true) in
    let d = rw (c.in-Some.is) at (c.in-Ok.ensures.tries _ there) in
    let even = one_for_each c.args.suite.now c.suite_keeps_rules.ensures in
    let test = test_there c.args.suite.now c.suite_keeps_rules.ensures c.loop-test.test _ there in
    rw c.failed.ensures (fail_sends (g.S.Subject.state c.args.subject.now) (g.S.Subject.state c.loop-test.subject) (g.S.Subject.state c.run_test.new.subject) (tests_of c.args.suite.now) c.loop-test.test _ c.loop-test.invariant.passed c.loop-test.invariant.keeps test even
    c.in-Some.difference.step c.in-Some.difference.given d)

pub returns-in-Some-clause-stops : goal.returns-in-Some-clause-stops
returns-in-Some-clause-stops g c = λ coming told.
    let there = slice_get-get_or c.args.suite.now.tests c.loop-test.test no_test (rw c.tests-test-end.ensures at c.loop-test-test.true) in
    let d = rw (c.in-Some.is) at (c.in-Ok.ensures.tries _ there) in
    let even = one_for_each c.args.suite.now c.suite_keeps_rules.ensures in
    let test = test_there c.args.suite.now c.suite_keeps_rules.ensures c.loop-test.test _ there in
    fail_exchange (g.S.Subject.state c.args.subject.now) (g.S.Subject.state c.loop-test.subject) (g.S.Subject.state c.run_test.new.subject) (tests_of c.args.suite.now) c.loop-test.test _ c.loop-test.invariant.passed c.loop-test.invariant.keeps test even
    c.in-Some.difference.step c.in-Some.difference.given d coming told

pub loop-test-preserved : goal.loop-test-preserved
loop-test-preserved g c =
    let there = slice_get-get_or c.args.suite.now.tests c.loop-test.test no_test (rw c.tests-test-end.ensures at c.loop-test-test.true) in
    let done = c.in-Ok.ensures in
    record {
      made = c.put_test-count.ensures.still_made;
      keeps = keeps_both c.loop-test.invariant.keeps done.keeps;
      follows = g.met.S.Subject.follows_along _ _ _ c.loop-test.invariant.follows done.follows;
      passed = test_passes (g.S.Subject.state c.args.subject.now) (g.S.Subject.state c.loop-test.subject) (g.S.Subject.state c.run_test.new.subject) (tests_of c.args.suite.now) c.loop-test.test _ c.loop-test.invariant.passed c.loop-test.invariant.keeps
          (test_there c.args.suite.now c.suite_keeps_rules.ensures c.loop-test.test _ there) (rw (c.in-None.is) at (done.tries _ there));
    }

pub returns-clause-coming : goal.returns-clause-coming
returns-clause-coming g c =
    let many = length-map c.args.suite.now.tests (test_case c.args.suite.now.classes) in
    pass_gives (g.S.Subject.state c.args.subject.now) (g.S.Subject.state c.loop-test.subject) (tests_of c.args.suite.now) c.loop-test.test c.loop-test.invariant.passed (omega (arith, many, c.tests-test-end.ensures, c.loop-test-test.false))
    (one_for_each c.args.suite.now c.suite_keeps_rules.ensures)

pub returns-clause-stops : goal.returns-clause-stops
returns-clause-stops g c =
    let many = length-map c.args.suite.now.tests (test_case c.args.suite.now.classes) in
    pass_exchange (g.S.Subject.state c.args.subject.now) (g.S.Subject.state c.loop-test.subject) (tests_of c.args.suite.now) c.loop-test.test c.loop-test.invariant.passed (omega (arith, many, c.tests-test-end.ensures, c.loop-test-test.false))
