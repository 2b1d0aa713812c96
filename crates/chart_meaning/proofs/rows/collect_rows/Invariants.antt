use Rattle.chart_meaning.specs.Tree.{ancestors}
use Rattle.chart_meaning.proofs.Listing.{IsCollecting}
use Rattle.chart_meaning.proofs.rows.collect_rows.Given as goal

abbrev pub invariant-loop-state : goal.invariant-loop-state
invariant-loop-state l = IsCollecting l.chart l.leaf (ancestors l.chart.states l.leaf) l.state-index l.rows.items
