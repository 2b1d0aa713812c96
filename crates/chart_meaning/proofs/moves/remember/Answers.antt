use Rattle.std.proofs.Common.{◌∙◌, sym, ap, is_some}
use Rattle.chart_meaning.proofs.Leaving.{AreLastChildren-set, is_remembering-last, remember-Some, remember-none}
use Rattle.chart_meaning.proofs.moves.remember.Goals as goal

pub returns-then-is_some-clause-last_child : goal.returns-then-is_some-clause-last_child
returns-then-is_some-clause-last_child c =
    let some = ap is_some (sym c.last_child.ensures) ∙ sym c.is_some.ensures ∙ c.if-is_some.true in
    rw c.in-Some.is (remember-Some c.args.chart.now c.args.config.now _ c.args.state c.in-Some.child c.requires.last
    c.requires.state some c.set_last_child.ensures)

pub returns-then-is_some-clause-last : goal.returns-then-is_some-clause-last
returns-then-is_some-clause-last c =
    let some = ap is_some (sym c.last_child.ensures) ∙ sym c.is_some.ensures ∙ c.if-is_some.true in
    let remembering = is_remembering-last c.args.chart.now c.args.config.now c.args.state c.requires.last c.requires.state ∙ some in
    let up = rw c.in-Some.is at c.requires.child in
    rw c.set_last_child.ensures (AreLastChildren-set c.args.chart.now c.args.config.now c.args.state c.in-Some.child remembering up c.requires.last)

pub returns-else-is_some-clause-last_child : goal.returns-else-is_some-clause-last_child
returns-else-is_some-clause-last_child c =
    let none = ap is_some (sym c.last_child.ensures) ∙ sym c.is_some.ensures ∙ c.if-is_some.false in
    remember-none c.args.chart.now c.args.config.now c.args.state c.args.child c.requires.last c.requires.state none
