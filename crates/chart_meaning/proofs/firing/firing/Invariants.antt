use Rattle.chart_meaning.proofs.Listing.{IsScanning}
use Rattle.chart_meaning.proofs.firing.firing.Given as goal

abbrev pub invariant-loop-place : goal.invariant-loop-place
invariant-loop-place l = IsScanning l.chart l.config.leaf l.input l.config.memory l.rows l.place
