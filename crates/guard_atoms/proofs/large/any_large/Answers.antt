use Rattle.std.proofs.Common.{Bor}
use Rattle.lin_form.specs.declared.form.Comparison.{Comparison}
use Rattle.guard_atoms.specs.Atoms.{is_large}
use Rattle.guard_atoms.proofs.Sizes.{none_more, some_passes}
use Rattle.std.proofs.Common.{sym, ◌∙◌}
use Rattle.guard_atoms.proofs.large.any_large.Goals as goal

pub returns-then-is_large : goal.returns-then-is_large
returns-then-is_large c = some_passes is_large (λ (q : Bor Comparison). q.now) c.args.comparisons.now c.loop-comparison.comparison-index c.comparison-item.result c.loop-comparison-test.true c.comparison-item.is (sym c.is_large.ensures ∙ c.if-is_large.true)

pub loop-comparison-preserved : goal.loop-comparison-preserved
loop-comparison-preserved c = none_more is_large (λ (q : Bor Comparison). q.now) c.args.comparisons.now c.loop-comparison.comparison-index c.comparison-item.result c.loop-comparison-test.true c.comparison-item.is (sym c.is_large.ensures ∙ c.if-is_large.false) c.loop-comparison.invariant
