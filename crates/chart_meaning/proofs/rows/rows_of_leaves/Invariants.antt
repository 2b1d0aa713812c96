use Rattle.chart_meaning.proofs.Listing.{IsListing}
use Rattle.chart_meaning.proofs.rows.rows_of_leaves.Given as goal

abbrev pub invariant-loop-state : goal.invariant-loop-state
invariant-loop-state l = IsListing l.chart l.state l.all.items
