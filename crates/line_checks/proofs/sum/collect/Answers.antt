use Rattle.line_checks.proofs.Sums.{terms_failed}
use Rattle.line_checks.proofs.sum.collect.Goals as goal

pub returns-in-Err-clause-check : goal.returns-in-Err-clause-check
returns-in-Err-clause-check g c =
    terms_failed (g.S.Scope.names c.args.scope.now) c.args.terms.now c.terms.term-index c.term-item.result c.in-Err.error c.terms-test.true
    c.term-item.is c.terms.invariant.check c.in-Err.ensures.check
