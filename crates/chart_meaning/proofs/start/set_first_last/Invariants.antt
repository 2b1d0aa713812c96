use Rattle.chart_meaning.proofs.Starting.{IsSettingLast}
use Rattle.chart_meaning.proofs.start.set_first_last.Given as goal

abbrev pub invariant-loop-state : goal.invariant-loop-state
invariant-loop-state l = IsSettingLast l.chart l.fn.config l.state l.config
