use Rattle.impl_table.proofs.Whole.{is_table}
use Rattle.impl_table.proofs.read.table.Goals as goal

pub invariant_of-result-2 : goal.invariant_of-result-2
invariant_of-result-2 c = record {
  kept = rw (c.in_ok-rows.ensures) (is_table c.args.declared _ c.requires.partial c.requires.complete
      (rw (c.as_slice.ensures) at c.in_ok-inputs.ensures) (rw (c.as_slice-2.ensures) at c.in_ok-outputs.ensures));
}
