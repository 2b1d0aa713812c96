use Rattle.class_stages.proofs.Cutting.{uncut}
use Rattle.class_stages.proofs.cuts.cuts_at.Goals as goal

pub returns-clause-made : goal.returns-clause-made
returns-clause-made g c = uncut c.args.named c.args.number c.args.chart.now.signature c.none.result c.if-named.false c.none.ensures
