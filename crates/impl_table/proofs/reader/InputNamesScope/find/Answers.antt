use Rattle.std.proofs.Common.{ap}
use Rattle.std.specs.Prelude.{Option, false}
use Rattle.line_forms.specs.declared.statement.InputForm.{InputForm}
use Rattle.line_checks.specs.declared.scope.Variable.{Variable}
use Rattle.line_checks.specs.Names.{use_check}
use Rattle.line_checks.proofs.Places.{found_in, not_found}
use Rattle.impl_table.proofs.reader.InputNamesScope.find.Goals as goal

pub returns-in-Some-clause-found : goal.returns-in-Some-clause-found
returns-in-Some-clause-found c = found_in (λ (f : InputForm). f.name) c.input_number.result c.args.name c.args.self.now.inputs.now
    c.in-Some.number c.input_number.ensures.number c.in-Some.is

pub returns-in-None-clause-found : goal.returns-in-None-clause-found
returns-in-None-clause-found c =
    let h = not_found (λ (f : InputForm). f.name) c.input_number.result c.args.name c.args.self.now.inputs.now c.input_number.ensures.number c.in-None.is in
    (h, ap (λ (o : Option Variable). use_check o false) h)
