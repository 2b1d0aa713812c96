use Rattle.chart_meaning.proofs.Starting.{IsSettingLast-start, IsSettingLast-none, IsSettingLast-more, IsSettingLast-end}
use Rattle.chart_meaning.proofs.start.set_first_last.Goals as goal

pub loop-state-init : goal.loop-state-init
loop-state-init c = IsSettingLast-start c.args.chart.now c.args.config.now c.requires

pub set_first_last_of-requires-clause-none : goal.set_first_last_of-requires-clause-none
set_first_last_of-requires-clause-none c =
    IsSettingLast-none c.args.chart.now c.args.config.now c.loop-state.config c.loop-state.state
    (rw c.len-state-end.ensures at c.loop-state-test.true) c.loop-state.invariant

pub loop-state-preserved : goal.loop-state-preserved
loop-state-preserved c =
    IsSettingLast-more c.args.chart.now c.args.config.now c.loop-state.config c.set_first_last_of.new.config
    c.loop-state.state (rw c.len-state-end.ensures at c.loop-state-test.true) c.set_first_last_of.ensures
    c.loop-state.invariant

pub returns : goal.returns
returns c = IsSettingLast-end c.args.chart.now c.args.config.now c.loop-state.config c.loop-state.state
    (rw c.len-state-end.ensures at c.loop-state-test.false) c.loop-state.invariant
