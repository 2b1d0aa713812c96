use Rattle.std.proofs.Common.{◌++◌, ◌∷◌, [], ◌+◌, ◌/◌, ◌%◌, ◌∙◌, ap, sym, map, zero-add, length}
use Rattle.std.proofs.lemmas.List.{map_push, length_push}
use Rattle.std.proofs.lemmas.List.Elements.{All-push}
use Rattle.std.proofs.lemmas.List.FromFn.{map-range_with_len_more}
use Rattle.chart_model.specs.declared.state.State.{State}
use Rattle.chart_model.specs.Chart.{IsState}
use Rattle.chart_meaning.proofs.charts.states.Goals as goal

pub loop-number-preserved : goal.loop-number-preserved
loop-number-preserved g c =
    let pushed = c.in_ok-push.ensures.ok in
    let one = c.in_ok-state.field-0 in (
      rw pushed (All-push (IsState 2 1 2) c.loop-number.states one c.loop-number.invariant.0 c.in_ok-state.ensures.state),
      ap (map (λ (state : State). state.name)) pushed ∙ map_push (λ (state : State). state.name) c.loop-number.states
          one ∙ (λ i. c.loop-number.invariant.1 i ++ c.in_ok-state.ensures.name i ∷ [])
          ∙ sym (map-range_with_len_more (λ number. (number / 8 + 65) ∷ (number % 8 + 65) ∷ []) 0 c.loop-number.number
          c.loop-number.number (zero-add c.loop-number.number)),
      ap length pushed ∙ length_push c.loop-number.states one ∙ ap (λ n. n + 1) c.loop-number.invariant.2,
    )
