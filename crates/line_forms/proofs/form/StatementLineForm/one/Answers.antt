use Rattle.line_forms.proofs.Unique.{one_statement}
use Rattle.line_forms.proofs.form.StatementLineForm.one.Goals as goal

pub returns : goal.returns
returns c = one_statement
