use Rattle.std.proofs.Common.{◌∙◌}
use Rattle.chart_meaning.proofs.Leaving.{IsRead, entry_read, entry_are, entered}
use Rattle.chart_meaning.proofs.moves.enter.Goals as goal

pub run-requires-clause-actions : goal.run-requires-clause-actions
run-requires-clause-actions c =
    entry_are c.args.chart.now c.args.state c.as_slice.result.now c.index-as_slice-state.result
    c.as_slice-2.result.now
    (record { inside = c.requires.state; same = c.as_slice.ensures; is = c.index-as_slice-state.is })
    c.as_slice-2.ensures

pub returns-clause-enter : goal.returns-clause-enter
returns-clause-enter c =
    let read : IsRead c.args.chart.now c.args.state c.as_slice.result.now c.index-as_slice-state.result =
    record { inside = c.requires.state; same = c.as_slice.ensures; is = c.index-as_slice-state.is } in
    let entry = entry_read c.args.chart.now c.args.state c.as_slice.result.now c.index-as_slice-state.result
    c.as_slice-2.result.now read c.as_slice-2.ensures in
    c.set_leaf.ensures ∙ entered c.args.chart.now c.args.state c.as_slice-2.result.now c.args.config.now c.run.new.config entry c.run.ensures.run
