use Rattle.line_forms.specs.declared.statement.TestForm.{TestForm}
use Rattle.line_forms.specs.declared.error.ParseError.TheVariants.{Form}
use Rattle.line_forms.proofs.Ends.{no_relation, right_failed, test_longest}
use Rattle.line_checks.proofs.walk.test_end.Goals as goal

pub returns-in_default-relation_at-clause-found : goal.returns-in_default-relation_at-clause-found
returns-in_default-relation_at-clause-found c =
    let left = c.in-Some.ensures.found in
    no_relation c.args.line.now c.args.at c.in-Some.middle left.0 left.1 c.in_default-relation_at.ensures.found

pub returns-in-Some-sum_end-clause-found : goal.returns-in-Some-sum_end-clause-found
returns-in-Some-sum_end-clause-found c =
    let left = c.in-Some.ensures.found in
    let right = c.in-Some-sum_end.ensures.found in
    let t : TestForm = record { left = left.0; relation = c.in-Some-relation_at.relation; right = right.0 } in
    (t, test_longest c.args.line.now c.args.at c.in-Some.middle c.in-Some-sum_end.end t left.1 c.in-Some-relation_at.ensures.found right.1)

pub returns-in-None-clause-found : goal.returns-in-None-clause-found
returns-in-None-clause-found c =
    let left = c.in-Some.ensures.found in
    right_failed c.args.line.now c.args.at c.in-Some.middle left.0 Form left.1 c.in-None.ensures.found
