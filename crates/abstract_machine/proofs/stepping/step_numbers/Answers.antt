use Rattle.std.proofs.Common.{sym}
use Rattle.abstract_machine.proofs.Branching.{noted_now, noted_where_made, step_again}
use Rattle.abstract_machine.proofs.stepping.step_numbers.Goals as goal

pub returns-in_default-branch-clause-noted : goal.returns-in_default-branch-clause-noted
returns-in_default-branch-clause-noted g c =
    noted_where_made (g.P.Plan.plan c.args.plan.now) (g.P.Plan.branches c.args.plan.now) c.args.states.now.keys
    c.args.replies.now.keys c.args.state.now c.args.branches.now c.requires.noted c.args.input.now
    c.made_step.new.states.keys c.made_step.new.replies.keys c.made_step.result c.made_step.ensures.step

pub returns-in-Some-clause-step : goal.returns-in-Some-clause-step
returns-in-Some-clause-step g c =
    step_again (g.P.Plan.plan c.args.plan.now) (g.P.Plan.branches c.args.plan.now) c.args.states.now.keys
    c.args.replies.now.keys c.args.state.now c.args.branches.now c.requires.noted c.args.input.now
    c.in_Some-branch.number c.in-Some.step c.requires.few c.requires.fits c.in_Some-branch.ensures.told
    c.in_Some-branch.ensures.alike (sym c.in-Some.ensures)

pub returns-clause-noted : goal.returns-clause-noted
returns-clause-noted g c =
    noted_now (g.P.Plan.plan c.args.plan.now) (g.P.Plan.branches c.args.plan.now) c.args.states.now.keys
    c.args.replies.now.keys c.args.state.now c.args.branches.now c.requires.noted c.args.input.now
    c.in_Some-branch.number c.made_step-2.new.states.keys c.made_step-2.new.replies.keys c.in_ok-step.step
    c.requires.fits c.in_Some-branch.ensures.told c.in_ok-step.ensures.step c.note.new.self c.in_ok-note.ensures
