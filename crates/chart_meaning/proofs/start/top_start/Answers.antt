use Rattle.std.proofs.Common.{◌∙◌, sym, ap}
use Rattle.std.specs.Prelude.{position}
use Rattle.chart_model.specs.States.{is_top_start}
use Rattle.chart_meaning.proofs.Moving.{first_counted}
use Rattle.chart_meaning.proofs.start.top_start.Goals as goal

pub unreachable-requires : goal.unreachable-requires
unreachable-requires c =
    first_counted is_top_start c.args.chart.now.states c.args.chart.now.kept.tree.top
    (ap (position is_top_start) (sym c.as_slice.ensures) ∙ sym c.first_top_start.ensures ∙ c.in-None.is)
