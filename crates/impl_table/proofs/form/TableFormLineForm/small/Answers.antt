use Rattle.impl_table.proofs.Small.{small_table}
use Rattle.impl_table.proofs.form.TableFormLineForm.small.Goals as goal

pub returns : goal.returns
returns c = small_table
