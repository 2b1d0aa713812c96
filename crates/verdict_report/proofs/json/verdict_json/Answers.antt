use Rattle.std.proofs.Common.{◌∙◌, ap, ◌++◌, ◌∷◌, []}
use Rattle.std.proofs.lemmas.Result.{IfOk-weaker}
use Rattle.serde_json.specs.Written.{compact_text, has_float}
use Rattle.verdict_report.proofs.Objects.{text_is, no_float}
use Rattle.verdict_report.proofs.json.verdict_json.Goals as goal

pub line-requires : goal.line-requires
line-requires c = ap has_float c.in_ok-value.ensures ∙ no_float c.args.suite.now c.args.verdict.now

pub returns : goal.returns
returns c = IfOk-weaker c.line.result _ _ (λ text e. e ∙ ap (λ d. compact_text d ++ 10 ∷ []) c.in_ok-value.ensures ∙ ap (λ t. t ++ 10 ∷ []) (text_is c.args.suite.now c.args.verdict.now)) c.line.ensures
