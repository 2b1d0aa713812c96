use Rattle.subject.proofs.Failures.{passes_or_fails, excludes, one_failure}
use Rattle.subject.proofs.laws.verdict_is_one.Goals as goal

pub returns-clause-either : goal.returns-clause-either
returns-clause-either c = λ answers tests size. passes_or_fails answers size tests

pub returns-clause-not_both : goal.returns-clause-not_both
returns-clause-not_both c = excludes

pub returns-clause-one : goal.returns-clause-one
returns-clause-one c = one_failure
