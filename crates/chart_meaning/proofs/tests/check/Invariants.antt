use Rattle.chart_meaning.specs.IsConfiguration.{IsConfiguration}
use Rattle.chart_meaning.proofs.tests.check.Given as goal

abbrev pub invariant-loop-number : goal.invariant-loop-number
invariant-loop-number g l = IsConfiguration l.plan-inside.chart l.config
