use Rattle.std.proofs.Common.{◌++◌, ◌∷◌, [], ap, sym, ◌∙◌, zero-add}
use Rattle.std.proofs.lemmas.List.FromFn.{map-range_with_len_more}
use Rattle.chart_meaning.specs.Tree.{start_descendants}
use Rattle.chart_meaning.proofs.rows.ways_down.Goals as goal

pub loop-state-preserved : goal.loop-state-preserved
loop-state-preserved c =
    let way = c.start_descendants.ensures ∙ ap (λ states. start_descendants states c.loop-state.state) c.as_slice-states.ensures in
    c.in_ok-push.ensures.items ∙ (λ i. c.loop-state.invariant i ++ way i ∷ [])
    ∙ sym (map-range_with_len_more (start_descendants c.args.chart.now.states) 0 c.loop-state.state c.loop-state.state
    (zero-add c.loop-state.state))
