-- Guards over a scope of names.
use Rattle.std.specs.Prelude.{ℕ, Option}
use Rattle.std.specs.Option.{option_or}
use Rattle.lin_form.specs.declared.form.Comparison.{Comparison}
use Rattle.lin_form.specs.Trees as tree
use Rattle.lin_form.specs.Trees.{Tree}
use Rattle.line_forms.specs.Trees as written
use Rattle.line_checks.specs.declared.scope.NameFault.{NameFault}
use Rattle.line_checks.specs.Names.{Names}
use Rattle.line_checks.specs.Sums.{test_check, comparison_of}

-- the names of a guard from left to right
abbrev pub guard_check : Names → written.Tree → Option NameFault
guard_check s (written.test t) = test_check s t
guard_check s (written.not g) = guard_check s g
guard_check s (written.and g h) = option_or (guard_check s g) (guard_check s h)
guard_check s (written.or g h) = option_or (guard_check s g) (guard_check s h)

-- the guard whose comparisons are collected, where forms have so many inputs
abbrev pub guard_of : Names → ℕ → written.Tree → Tree Comparison
guard_of s width (written.test t) = tree.test (comparison_of s width t)
guard_of s width (written.not g) = tree.not (guard_of s width g)
guard_of s width (written.and g h) = tree.and (guard_of s width g) (guard_of s width h)
guard_of s width (written.or g h) = tree.or (guard_of s width g) (guard_of s width h)
