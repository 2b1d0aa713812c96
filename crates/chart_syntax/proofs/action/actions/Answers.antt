use Rattle.chart_syntax.proofs.Actions.{actions_failed}
use Rattle.chart_syntax.proofs.action.actions.Goals as goal

pub returns-in-Err : goal.returns-in-Err
returns-in-Err c =
    actions_failed c.args.reader.now c.args.forms.now c.forms.form-index c.form-item.result c.in-Err.refusal
    c.forms-test.true c.form-item.is c.forms.invariant.check c.in-Err.ensures
