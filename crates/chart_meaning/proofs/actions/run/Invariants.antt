use Rattle.chart_meaning.proofs.Acting.{IsRunning}
use Rattle.chart_meaning.proofs.actions.run.Given as goal

abbrev pub invariant-loop-action : goal.invariant-loop-action
invariant-loop-action l = IsRunning l.chart l.actions l.fn.config l.action-index l.config
