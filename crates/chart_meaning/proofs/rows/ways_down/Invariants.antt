use Rattle.std.proofs.Common.{◌≡◌, map}
use Rattle.std.specs.List.{range_with_len}
use Rattle.chart_meaning.specs.Tree.{start_descendants}
use Rattle.chart_meaning.proofs.rows.ways_down.Given as goal

abbrev pub invariant-loop-state : goal.invariant-loop-state
invariant-loop-state l = l.ways.items ≡ map (start_descendants l.chart.states) (range_with_len 0 l.state)
