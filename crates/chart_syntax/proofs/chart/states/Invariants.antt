use Rattle.std.proofs.Common.{drop}
use Rattle.chart_syntax.proofs.Whole.{IsJoinedTo}
use Rattle.chart_syntax.proofs.chart.states.Given as goal

abbrev pub invariant-states : goal.invariant-states
invariant-states l = IsJoinedTo l.declared (drop l.state-index l.declared) l.fn.entries l.fn.exits l.entries l.exits l.states
