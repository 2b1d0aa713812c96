use Rattle.chart_meaning.proofs.Deciding.{IsBranchOf-chart}
use Rattle.chart_meaning.proofs.Reaching.{IsConfiguration-reached}
use Rattle.chart_meaning.proofs.plan.ChartPlanPlan.branch.Goals as goal

pub branch-number-requires-clause-configuration : goal.branch-number-requires-clause-configuration
branch-number-requires-clause-configuration c = IsConfiguration-reached c.args.self.now c.args.state.now c.requires.reached

pub returns-clause-alike : goal.returns-clause-alike
returns-clause-alike c = IsBranchOf-chart c.args.self.now c.args.state.now c.branch-number.result
