use Rattle.std.proofs.Common.{◌≡◌, drop}
use Rattle.chart_model.specs.Box.{meets}
use Rattle.chart_syntax.proofs.word.meets.Given as goal

abbrev pub invariant-assumed : goal.invariant-assumed
invariant-assumed l = meets (drop l.comparison-index l.assumed) l.vector ≡ meets l.assumed l.vector
