use Rattle.chart_meaning.proofs.Listing.{IsAdding}
use Rattle.chart_meaning.proofs.rows.add_rows_from.Given as goal

abbrev pub invariant-loop-number : goal.invariant-loop-number
invariant-loop-number l = IsAdding l.chart l.leaf l.state l.fn.rows.items l.number l.rows.items
