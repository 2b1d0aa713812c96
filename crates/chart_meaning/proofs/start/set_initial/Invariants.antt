use Rattle.chart_meaning.proofs.Starting.{IsSettingInitial}
use Rattle.chart_meaning.proofs.start.set_initial.Given as goal

abbrev pub invariant-loop-number : goal.invariant-loop-number
invariant-loop-number l = IsSettingInitial l.memories l.fn.config l.number l.config
