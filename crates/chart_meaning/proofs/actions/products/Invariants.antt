use Rattle.chart_meaning.proofs.Acting.{IsSumSoFar}
use Rattle.chart_meaning.proofs.actions.products.Given as goal

abbrev pub invariant-loop-index : goal.invariant-loop-index
invariant-loop-index l = IsSumSoFar l.coefficients l.values l.index l.total
