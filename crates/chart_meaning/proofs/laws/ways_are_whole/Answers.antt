use Rattle.chart_meaning.proofs.Climbing.{ancestors-whole, start_descendants-whole}
use Rattle.chart_meaning.proofs.laws.ways_are_whole.Goals as goal

pub returns-clause-out : goal.returns-clause-out
returns-clause-out c = ancestors-whole c.args.chart.now.states c.args.chart.now.kept.tree c.args.state c.requires

pub returns-clause-down : goal.returns-clause-down
returns-clause-down c = start_descendants-whole c.args.chart.now.states c.args.chart.now.kept.tree c.args.state c.requires
