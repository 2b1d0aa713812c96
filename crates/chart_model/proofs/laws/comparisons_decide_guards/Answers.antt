use Rattle.chart_model.proofs.GuardLemmas.{truth_of_guard-same}
use Rattle.chart_model.proofs.laws.comparisons_decide_guards.Goals as goal

pub returns : goal.returns
returns c = truth_of_guard-same
