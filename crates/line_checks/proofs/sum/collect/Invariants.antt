use Rattle.std.proofs.Common.{◌≡◌, ◌≤◌, ◌+◌, ◌*◌, drop}
use Rattle.line_checks.specs.inside.Weight.{weight}
use Rattle.line_checks.specs.Sums.{sum_check, collect}
use Rattle.line_checks.proofs.sum.collect.Given as goal

abbrev pub invariant-terms : goal.invariant-terms
invariant-terms g l = record {
  check : sum_check (g.S.Scope.names l.scope) (drop l.term-index l.terms) ≡ sum_check (g.S.Scope.names l.scope) l.terms;
  done : collect (g.S.Scope.names l.scope) l.subtracted l.sum (drop l.term-index l.terms) ≡ collect (g.S.Scope.names l.scope) l.subtracted l.fn.sum l.terms;
  light : weight l.sum ≤ weight l.fn.sum + 1000000 * l.term-index;
}
