use Rattle.guard_atoms.proofs.SmallCharts.{one_cut}
use Rattle.guard_atoms.proofs.tests.charts.cuts.Goals as goal

pub loop-row-preserved : goal.loop-row-preserved
loop-row-preserved g c = one_cut c.loop-row.list.items c.push.new.self.items _ c.in_ok-push.ensures.items c.form-form.ensures.over c.form-form.ensures.memory c.loop-row.invariant
