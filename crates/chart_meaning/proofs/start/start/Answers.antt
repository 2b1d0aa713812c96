use Rattle.chart_meaning.proofs.Starting.{IsConfiguration-started}
use Rattle.chart_meaning.proofs.start.start.Goals as goal

pub returns-clause-configuration : goal.returns-clause-configuration
returns-clause-configuration c =
    IsConfiguration-started c.args.chart.now c.top_start-top.result c.declared-config.result c.enter.new.config
    c.enter_down.new.config c.top_start-top.ensures.inside c.declared-config.ensures.last c.enter_down.ensures.values
    c.enter.ensures.enter c.enter_down.ensures.down
