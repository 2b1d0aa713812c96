use Rattle.chart_meaning.proofs.Taking.{IsConfiguration-run}
use Rattle.chart_meaning.proofs.moves.take_row.Goals as goal

pub returns-in-None-clause-configuration : goal.returns-in-None-clause-configuration
returns-in-None-clause-configuration c =
    IsConfiguration-run c.args.chart.now c.as_slice-in-None.result.now c.args.config.now c.run.new.config
    c.requires.configuration c.run.ensures.values c.run.ensures.run
