use Rattle.std.proofs.Common.{◌≡◌, ◌≤◌, ◌<◌, Some, subst, arith}
use Rattle.std.specs.Prelude.{Err}
use Rattle.chart_model.specs.Guard.{plain}
use Rattle.line_forms.specs.Trees as written
use Rattle.line_forms.specs.Trees.{tests_of}
use Rattle.line_checks.specs.Answers.{Resolves}
use Rattle.line_checks.specs.Guards.{guard_check, guard_of}
use Rattle.line_checks.proofs.run.guard_at.Goals as goal

pub returns-in-None : goal.returns-in-None
returns-in-None g c =
    let h = c.in-Ok.ensures.found in
    (c.in-Ok.found.1, h.0, h.1, subst (λ t. 64 < tests_of t) h.2 c.in-None.ensures)

pub returns-in-Err-Fault : goal.returns-in-Err-Fault
returns-in-Err-Fault g c =
    let h = c.in-Ok.ensures.found in
    let few = c.in-Some.ensures in
    let names = g.S.Scope.names c.args.scope.now in
    let tree = written.plain c.in-Ok.found.0 in
    let fault : guard_check names tree ≡ Some c.in-Err-Fault.fault =
    subst (λ e. Resolves plain (guard_check names tree) (guard_of names c.args.width tree) (Err e)) c.in-Err-Fault.field-0-is
    c.in-Err-Fault.ensures in
    (c.in-Ok.found.1, h.0, h.1, subst (λ t. tests_of t ≤ 64) h.2 (omega (arith, few)), subst (λ t. guard_check names t ≡ Some c.in-Err-Fault.fault) h.2 fault)
