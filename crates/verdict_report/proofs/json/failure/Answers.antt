use Rattle.std.proofs.Common.{ap, sym, ◌∙◌}
use Rattle.std.proofs.lemmas.Result.{IfOk-weaker}
use Rattle.verdict_report.specs.inside.Members.{failure_data, numbers_data, vectors_data}
use Rattle.verdict_report.proofs.Failing.{place, wanted_is, inputs_are, step_in}
use Rattle.verdict_report.proofs.json.failure.Goals as goal

pub expected-requires-clause-step : goal.expected-requires-clause-step
expected-requires-clause-step c = λ t there. step_in c.args.suite.now c.suite_keeps_rules.ensures c.args.test c.args.step c.requires t there

pub returns : goal.returns
returns c =
    let s = c.args.suite.now in
    let there = place s c.args.test c.args.step c.requires in
    let inputs = inputs_are s c.suite_keeps_rules.ensures c.args.test c.args.step c.requires _ there c.args.given.now in
    let wanted = wanted_is s c.suite_keeps_rules.ensures c.args.test c.args.step c.requires _ there c.expected.result.now (c.expected.ensures _ there) in
    let expected = c.in_ok-expected.ensures ∙ ap numbers_data (c.as_slice.ensures.value ∙ wanted) in
    let got = c.in_ok-got.ensures ∙ ap numbers_data c.as_slice-2.ensures.value in
    let word = c.in_ok-word.ensures _ there ∙ ap vectors_data inputs in
    IfOk-weaker c.failure_object.result _ _ (λ v e. e ∙ (λ i. failure_data s c.args.test c.args.step (expected i) (got i) (word i))) c.failure_object.ensures
