use Rattle.std.proofs.Common.{◌<◌, length, ◌∙◌, ap, None}
use Rattle.chart_meaning.specs.Actions.{run}
use Rattle.chart_meaning.specs.Step.{enter_all, enter_target, exit_all}
use Rattle.chart_meaning.proofs.Moving.{IsUpFrom-below, IsUpFrom-ancestors, All-below, AreStates-ancestors, AreStates-entered, run-last, enter_all-last}
use Rattle.chart_meaning.proofs.Leaving.{AreLastChildren-same}
use Rattle.chart_meaning.proofs.Taking.{IsConfiguration-entered, entered_below, target_inside}
use Rattle.chart_meaning.proofs.moves.go_to.Goals as goal

pub exit_all-requires-clause-way : goal.exit_all-requires-clause-way
exit_all-requires-clause-way c =
    rw (c.as_slice-exited.ensures.value, c.requires.route.exited)
    (IsUpFrom-below c.args.chart.now.states _ _ _ (IsUpFrom-ancestors c.args.chart.now.states c.args.config.now.leaf))

pub exit_all-requires-clause-states : goal.exit_all-requires-clause-states
exit_all-requires-clause-states c =
    rw (c.as_slice-exited.ensures.value, c.requires.route.exited)
    (All-below (λ s. s < length c.args.chart.now.states) _ _
    (AreStates-ancestors c.args.chart.now.states c.args.chart.now.kept.tree c.args.config.now.leaf
    c.requires.configuration.state))

pub enter_all-requires-clause-way : goal.enter_all-requires-clause-way
enter_all-requires-clause-way c =
    let inside = target_inside c.args.chart.now c.args.transition.now c.args.route.now.target c.requires.transition c.requires.route.target in
    rw (c.as_slice-entered.ensures.value, c.requires.route.entered)
    (AreStates-entered c.args.chart.now.states c.args.chart.now.kept.tree c.args.transition.now.source
    c.args.route.now.target inside)

pub enter_below-requires-clause-last : goal.enter_below-requires-clause-last
enter_below-requires-clause-last c =
    AreLastChildren-same c.args.chart.now c.exit_all.new.config c.enter_all.new.config
    (ap (λ d. d.last) c.enter_all.ensures.enter ∙ enter_all-last c.args.chart.now c.as_slice-entered.result.now
    c.run.new.config ∙ ap (λ d. d.last) c.run.ensures.run
    ∙ run-last c.args.chart.now.memories c.as_slice-effect.result.now c.exit_all.new.config) c.exit_all.ensures.last

pub returns-clause-taken : goal.returns-clause-taken
returns-clause-taken c =
    let exited = c.exit_all.ensures.exit ∙ ap (λ way. exit_all c.args.chart.now None way c.args.config.now)
    (c.as_slice-exited.ensures.value ∙ c.requires.route.exited) in
    let ran = c.run.ensures.run ∙ (λ i. run c.args.chart.now.memories (c.as_slice-effect.ensures i) (exited i)) in
    let entered = c.enter_all.ensures.enter ∙ ap (λ way. enter_all c.args.chart.now way c.run.new.config)
    (c.as_slice-entered.ensures.value ∙ c.requires.route.entered) in
    entered_below c.args.chart.now c.args.transition.now c.args.route.now.target c.run.new.config
    c.enter_all.new.config c.enter_below.new.config entered c.enter_below.ensures.below
    ∙ ap (enter_target c.args.chart.now c.args.transition.now c.args.route.now.target) ran

pub returns-clause-configuration : goal.returns-clause-configuration
returns-clause-configuration c =
    let entered = c.enter_all.ensures.enter ∙ ap (λ way. enter_all c.args.chart.now way c.run.new.config)
    (c.as_slice-entered.ensures.value ∙ c.requires.route.entered) in
    let whole = entered_below c.args.chart.now c.args.transition.now c.args.route.now.target c.run.new.config
    c.enter_all.new.config c.enter_below.new.config entered c.enter_below.ensures.below in
    let last = AreLastChildren-same c.args.chart.now c.exit_all.new.config c.run.new.config
    (ap (λ d. d.last) c.run.ensures.run ∙ run-last c.args.chart.now.memories c.as_slice-effect.result.now
    c.exit_all.new.config) c.exit_all.ensures.last in
    let inside = target_inside c.args.chart.now c.args.transition.now c.args.route.now.target c.requires.transition c.requires.route.target in
    IsConfiguration-entered c.args.chart.now c.args.transition.now c.args.route.now.target c.run.new.config
    c.enter_below.new.config c.requires.transition c.requires.route.target inside last
    c.enter_below.ensures.values whole
