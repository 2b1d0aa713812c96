use Rattle.std.proofs.Common.{◌≡◌, rules}
use Rattle.chart_meaning.specs.Step.{declared}
use Rattle.chart_meaning.proofs.Starting.{AreLastChildren-declared, AreValues-declared}
use Rattle.chart_meaning.proofs.start.declared.Goals as goal

pub returns-clause-values : goal.returns-clause-values
returns-clause-values c =
    let is : c.set_first_last.new.config ≡ declared c.args.chart.now c.args.state = search rules in
    rw is (AreValues-declared c.args.chart.now c.args.state)

pub returns-clause-last : goal.returns-clause-last
returns-clause-last c =
    let is : c.set_first_last.new.config ≡ declared c.args.chart.now c.args.state = search rules in
    rw is (AreLastChildren-declared c.args.chart.now c.args.state)
