use Rattle.std.proofs.Common.{◌∙◌, ap}
use Rattle.chart_meaning.specs.Actions.{run}
use Rattle.chart_meaning.specs.Step.{remember}
use Rattle.chart_meaning.proofs.Moving.{run-last}
use Rattle.chart_meaning.proofs.Leaving.{IsRead, exit_read, exit_are, AreLastChildren-same}
use Rattle.chart_meaning.proofs.moves.exit.Goals as goal

pub run-requires-clause-actions : goal.run-requires-clause-actions
run-requires-clause-actions c =
    exit_are c.args.chart.now c.args.state c.as_slice.result.now c.index-as_slice-number.result
    c.as_slice-2.result.now
    (record { inside = c.requires.state; same = c.as_slice.ensures; is = c.index-as_slice-number.is })
    c.as_slice-2.ensures

pub remember-requires-clause-last : goal.remember-requires-clause-last
remember-requires-clause-last c =
    AreLastChildren-same c.args.chart.now c.args.config.now c.run.new.config
    (ap (λ d. d.last) c.run.ensures.run ∙ run-last c.args.chart.now.memories c.as_slice-2.result.now
    c.args.config.now) c.requires.last

pub returns-clause-exit : goal.returns-clause-exit
returns-clause-exit c =
    let read : IsRead c.args.chart.now c.args.state c.as_slice.result.now c.index-as_slice-number.result =
    record { inside = c.requires.state; same = c.as_slice.ensures; is = c.index-as_slice-number.is } in
    let exit = exit_read c.args.chart.now c.args.state c.as_slice.result.now c.index-as_slice-number.result c.as_slice-2.result.now read c.as_slice-2.ensures in
    c.remember.ensures.last_child ∙ ap (remember c.args.chart.now.transitions c.args.state c.args.child)
    (c.run.ensures.run ∙ ap (λ x. run c.args.chart.now.memories x c.args.config.now) exit)
