use Rattle.chart_meaning.proofs.Reaching.{IsConfiguration-reached}
use Rattle.chart_meaning.proofs.plan.ChartPlanPlan.advance.Goals as goal

pub step-requires-clause-configuration : goal.step-requires-clause-configuration
step-requires-clause-configuration c = IsConfiguration-reached c.args.self.now c.args.state.now c.requires.reached
