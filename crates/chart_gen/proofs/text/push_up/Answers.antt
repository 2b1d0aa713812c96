use Rattle.std.proofs.lemmas.Result.{on_ok_weaker}
use Rattle.chart_gen.proofs.Pieces.{up}
use Rattle.chart_gen.proofs.text.push_up.Goals as goal

pub returns : goal.returns
returns c =
    on_ok_weaker c.end_line.result
    (λ e. up c.args.state _ _ _ _ _ _ c.in_ok-push.ensures c.in_ok-push-2.ensures c.in_ok-push-3.ensures c.in_ok-push-4.ensures e) c.end_line.ensures
