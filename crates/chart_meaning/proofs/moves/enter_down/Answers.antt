use Rattle.std.proofs.Common.{◌∙◌, ap}
use Rattle.chart_meaning.specs.Step.{enter_all}
use Rattle.chart_meaning.proofs.Moving.{AreStates-start_descendants}
use Rattle.chart_meaning.proofs.Listing.{way_kept, way_inside}
use Rattle.chart_meaning.proofs.moves.enter_down.Goals as goal

pub bounds-ways-state : goal.bounds-ways-state
bounds-ways-state c = way_inside c.args.chart.now.states c.args.ways.now c.args.state c.requires.ways c.requires.state

pub enter_all-requires-clause-way : goal.enter_all-requires-clause-way
enter_all-requires-clause-way c =
    let way = c.as_slice.ensures.value ∙ way_kept c.args.chart.now.states c.args.ways.now c.args.state
    c.index-ways-state.result c.requires.ways c.requires.state c.index-ways-state.is in
    rw way (AreStates-start_descendants c.args.chart.now.states c.args.state)

pub returns-clause-down : goal.returns-clause-down
returns-clause-down c =
    let way = c.as_slice.ensures.value ∙ way_kept c.args.chart.now.states c.args.ways.now c.args.state
    c.index-ways-state.result c.requires.ways c.requires.state c.index-ways-state.is in
    c.enter_all.ensures.enter ∙ ap (λ w. enter_all c.args.chart.now w c.args.config.now) way
