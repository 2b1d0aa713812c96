use Rattle.std.proofs.Common.{◌∙◌, ◌++◌, ap, refl, codes}
use Rattle.std.specs.List.{flat_map}
use Rattle.subject.specs.Suite.{tests_of}
use Rattle.test_world.proofs.Growing.{puts_then, puts_exit}
use Rattle.test_subject.specs.Subject.{in_line}
use Rattle.test_subject.specs.Verdict.{expected_at}
use Rattle.verdict_report.specs.Text.{reply_line}
use Rattle.verdict_report.proofs.Failing.{place, wanted_is, inputs_are, step_in}
use Rattle.verdict_report.proofs.write.put_failure.Goals as goal

pub returns-in-Err-put_inputs-clause-puts : goal.returns-in-Err-put_inputs-clause-puts
returns-in-Err-put_inputs-clause-puts g c =
    let s = c.args.suite.now in
    let there = place s c.args.test c.args.step c.requires.step in
    let inputs = inputs_are s c.suite_keeps_rules.ensures c.args.test c.args.step c.requires.step _ there c.args.given.now in
    let first = rw (c.line.ensures ∙ c.set_fail.ensures.line) at c.in-Ok.ensures.put in
    puts_then first (puts_exit (reply_line (codes "expected") (expected_at (tests_of s) c.args.test c.args.step) ++ reply_line (codes "got") c.args.given.now) refl
    (rw (ap (flat_map in_line) inputs) at (c.in-Err-put_inputs.ensures.puts _ there)))

pub expected-expected-requires-clause-step : goal.expected-expected-requires-clause-step
expected-expected-requires-clause-step g c = λ t there. step_in c.args.suite.now c.suite_keeps_rules.ensures c.args.test c.args.step c.requires.step t there

pub returns-in-Err-put_all-clause-puts : goal.returns-in-Err-put_all-clause-puts
returns-in-Err-put_all-clause-puts g c =
    let s = c.args.suite.now in
    let there = place s c.args.test c.args.step c.requires.step in
    let inputs = inputs_are s c.suite_keeps_rules.ensures c.args.test c.args.step c.requires.step _ there c.args.given.now in
    let first = rw (c.line.ensures ∙ c.set_fail.ensures.line) at c.in-Ok.ensures.put in
    let second = rw (ap (flat_map in_line) inputs) at (c.in-Ok-put_inputs.ensures.puts _ there) in
    let wanted = wanted_is s c.suite_keeps_rules.ensures c.args.test c.args.step c.requires.step _ there c.expected-expected.result.now (c.expected-expected.ensures _ there) in
    let line = c.line-2.ensures ∙ c.set_numbers.ensures.line ∙ ap (reply_line (codes "expected")) (c.as_slice.ensures.value ∙ wanted) in
    puts_then first (puts_then second (puts_exit (reply_line (codes "got") c.args.given.now) refl (rw line at c.in-Err-put_all.ensures.put)))

pub returns-clause-puts : goal.returns-clause-puts
returns-clause-puts g c =
    let s = c.args.suite.now in
    let there = place s c.args.test c.args.step c.requires.step in
    let inputs = inputs_are s c.suite_keeps_rules.ensures c.args.test c.args.step c.requires.step _ there c.args.given.now in
    let first = rw (c.line.ensures ∙ c.set_fail.ensures.line) at c.in-Ok.ensures.put in
    let second = rw (ap (flat_map in_line) inputs) at (c.in-Ok-put_inputs.ensures.puts _ there) in
    let wanted = wanted_is s c.suite_keeps_rules.ensures c.args.test c.args.step c.requires.step _ there c.expected-expected.result.now (c.expected-expected.ensures _ there) in
    let line = c.line-2.ensures ∙ c.set_numbers.ensures.line ∙ ap (reply_line (codes "expected")) (c.as_slice.ensures.value ∙ wanted) in
    let last = c.line-3.ensures ∙ c.set_numbers-2.ensures.line ∙ ap (reply_line (codes "got")) c.as_slice-2.ensures.value in
    puts_then first (puts_then second (puts_then (rw line at c.in-Ok-put_all.ensures.put) (rw last at c.put_all-3.ensures.put)))
