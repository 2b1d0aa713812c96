use Rattle.impl_table.proofs.Rows.{one_table}
use Rattle.impl_table.proofs.form.TableFormLineForm.one.Goals as goal

pub returns : goal.returns
returns c = one_table
