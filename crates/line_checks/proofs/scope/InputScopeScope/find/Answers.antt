use Rattle.std.proofs.Common.{ap, ◌∙◌}
use Rattle.std.specs.Prelude.{Option, false, position}
use Rattle.lin_form.specs.declared.input.Input.{Input}
use Rattle.line_checks.specs.declared.scope.Variable.{Variable}
use Rattle.line_checks.specs.Names.{use_check, is_same}
use Rattle.line_checks.proofs.Places.{found_in, not_found}
use Rattle.line_checks.proofs.scope.InputScopeScope.find.Goals as goal

pub returns-in-Some-clause-found : goal.returns-in-Some-clause-found
returns-in-Some-clause-found c =
    let inputs = c.args.self.now.signature.now.inputs in
    found_in (λ (i : Input). i.name) c.place.result c.args.name inputs c.in-Some.number
    (c.place.ensures.place ∙ ap (position (λ (i : Input). is_same c.args.name i.name)) c.as_slice.ensures) c.in-Some.is

pub returns-in-None-clause-found : goal.returns-in-None-clause-found
returns-in-None-clause-found c =
    let inputs = c.args.self.now.signature.now.inputs in
    let h = not_found (λ (i : Input). i.name) c.place.result c.args.name inputs
    (c.place.ensures.place ∙ ap (position (λ (i : Input). is_same c.args.name i.name)) c.as_slice.ensures) c.in-None.is in
    (h, ap (λ (o : Option Variable). use_check o false) h)
