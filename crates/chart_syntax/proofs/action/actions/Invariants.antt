use Rattle.std.proofs.Common.{◌≡◌, take, drop}
use Rattle.chart_syntax.specs.Checks.{actions_check, actions_of}
use Rattle.chart_syntax.proofs.action.actions.Given as goal

abbrev pub invariant-forms : goal.invariant-forms
invariant-forms l = record {
  check : actions_check l.reader (drop l.form-index l.forms) ≡ actions_check l.reader l.forms;
  done : l.actions ≡ actions_of l.reader (take l.form-index l.forms);
}
