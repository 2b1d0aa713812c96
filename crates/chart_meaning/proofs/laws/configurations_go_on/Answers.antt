use Rattle.chart_meaning.proofs.Keeping.{IsConfiguration-next, IsConfiguration-start}
use Rattle.chart_meaning.proofs.Reaching.{IsConfiguration-reached}
use Rattle.chart_meaning.proofs.laws.configurations_go_on.Goals as goal

pub returns-clause-start : goal.returns-clause-start
returns-clause-start c = IsConfiguration-start

pub returns-clause-next : goal.returns-clause-next
returns-clause-next c = IsConfiguration-next

pub returns-clause-reached : goal.returns-clause-reached
returns-clause-reached c = IsConfiguration-reached

pub returns-clause-replies : goal.returns-clause-replies
returns-clause-replies c = λ chart t x reached inside. (IsConfiguration-next chart t x (IsConfiguration-reached chart t reached)).values.outputs

pub returns-clause-limited : goal.returns-clause-limited
returns-clause-limited c = λ chart t x reached. (IsConfiguration-next chart t x (IsConfiguration-reached chart t reached)).values.limited
