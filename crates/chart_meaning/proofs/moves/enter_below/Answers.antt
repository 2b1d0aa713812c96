use Rattle.std.proofs.Common.{◌∙◌, sym, arith}
use Rattle.chart_meaning.proofs.Taking.{last_child-inside}
use Rattle.chart_meaning.proofs.moves.enter_below.Goals as goal

pub overflow_cast-child : goal.overflow_cast-child
overflow_cast-child c =
    let inside = last_child-inside c.args.chart.now c.args.config.now c.args.target c.in-Some.child c.requires.last (sym c.last_child.ensures ∙ c.in-Some.is) in
    let few = c.args.chart.now.kept.counts.few_states.limit in
    omega arith

pub enter-requires-clause-state : goal.enter-requires-clause-state
enter-requires-clause-state c =
    last_child-inside c.args.chart.now c.args.config.now c.args.target c.in-Some.child c.requires.last
    (sym c.last_child.ensures ∙ c.in-Some.is)

pub enter_down-requires-in-Some-clause-state : goal.enter_down-requires-in-Some-clause-state
enter_down-requires-in-Some-clause-state c =
    last_child-inside c.args.chart.now c.args.config.now c.args.target c.in-Some.child c.requires.last
    (sym c.last_child.ensures ∙ c.in-Some.is)
