use Rattle.test_subject.proofs.Verdicts.{some_verdict, one_verdict, pass_alone, passes}
use Rattle.test_subject.proofs.laws.verdict_on_answers.Goals as goal

pub returns-clause-some : goal.returns-clause-some
returns-clause-some c = some_verdict

pub returns-clause-one : goal.returns-clause-one
returns-clause-one c = one_verdict

pub returns-clause-pass : goal.returns-clause-pass
returns-clause-pass c = λ answers tests v h. (passes answers tests v h, pass_alone answers tests v h)
