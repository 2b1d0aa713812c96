use Rattle.line_checks.proofs.Adding.{comparison_adds_up, value_adds_up}
use Rattle.line_checks.proofs.laws.sums_add_up.Goals as goal

pub returns-clause-comparisons : goal.returns-clause-comparisons
returns-clause-comparisons c = comparison_adds_up

pub returns-clause-values : goal.returns-clause-values
returns-clause-values c = value_adds_up
