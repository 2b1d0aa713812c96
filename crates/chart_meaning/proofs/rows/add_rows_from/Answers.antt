use Rattle.std.proofs.Common.{◌<◌, length, get_or, ap, ◌∙◌}
use Rattle.chart_meaning.proofs.Leaving.{item_found}
use Rattle.chart_meaning.proofs.Listing.{IsAdding-push, IsAdding-skip}
use Rattle.chart_meaning.proofs.rows.add_rows_from.Goals.{then-transition-state+in_ok-push, else-transition-state}
use Rattle.chart_meaning.proofs.rows.add_rows_from.Goals as goal

pub loop-number-preserved : goal.loop-number-preserved
loop-number-preserved c =
    let chart = c.args.chart.now in
    let here : c.loop-number.number < length chart.transitions = rw c.as_slice-transition-items.ensures at c.loop-number-test.true in
    let is = c.transition-item.is ∙ ap (λ items. get_or items c.loop-number.number c.transition-item.result) c.as_slice-transition-items.ensures in
    elim c.if-transition-state.branch [
      | then-transition-state+in_ok-push w ↦
          let found = item_found chart.transitions c.as_slice-transition-items.result.now c.loop-number.number
          c.transition-item.result here c.as_slice-transition-items.ensures c.transition-item.is in
          rw (w.rows-is, w.in_ok-push.ensures.items)
          (IsAdding-push chart c.args.leaf c.args.state c.args.rows.now.items c.loop-number.number
          c.loop-number.rows.items c.transition-item.result w.row_of.result here is w.if-transition-state.true
          (w.row_of.ensures c.transition-item.result found) c.loop-number.invariant)
      | else-transition-state w ↦
          rw w.rows-is (IsAdding-skip chart c.args.leaf c.args.state c.args.rows.now.items c.loop-number.number
          c.loop-number.rows.items c.transition-item.result here is w.if-transition-state.false
          c.loop-number.invariant)
    ]
