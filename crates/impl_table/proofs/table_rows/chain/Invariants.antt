use Rattle.std.proofs.Common.{◌≡◌, ◌≤◌, length}
use Rattle.impl_table.specs.inside.Chains.{AreChainedFrom}
use Rattle.impl_table.proofs.table_rows.chain.Given as goal

abbrev pub invariant-rows : goal.invariant-rows
invariant-rows l = record {
  within : l.at ≤ length l.rows;
  states : length l.firsts ≡ length l.fn.firsts;
  chained : AreChainedFrom l.rows l.at l.firsts l.nexts;
}

abbrev pub decreases-rows : goal.decreases-rows
decreases-rows l = l.at
