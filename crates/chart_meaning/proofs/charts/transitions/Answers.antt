use Rattle.std.proofs.Common.{length, ◌+◌, ap, ◌∙◌}
use Rattle.std.proofs.lemmas.List.{length_push}
use Rattle.std.proofs.lemmas.List.Elements.{All-push}
use Rattle.chart_model.specs.Chart.{IsTransition}
use Rattle.chart_meaning.proofs.charts.transitions.Goals as goal

pub loop-row-preserved : goal.loop-row-preserved
loop-row-preserved g c =
    let pushed = c.in_ok-push.ensures.ok in
    let one = c.in_ok-transition.field-0 in (
      rw pushed (All-push (IsTransition 2 1 2 c.args.states.now) c.loop-row.transitions one c.loop-row.invariant.0 c.in_ok-transition.ensures),
      ap length pushed ∙ length_push c.loop-row.transitions one ∙ ap (λ n. n + 1) c.loop-row.invariant.1,
    )
