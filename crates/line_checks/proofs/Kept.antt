-- What the guards keep whose sums are collected.
use Rattle.std.proofs.Common.{◌≡◌, refl, ℕ, ◌+◌, ◌≤◌, [], length, arith, length-append}
use Rattle.std.specs.List.{All}
use Rattle.std.proofs.lemmas.List.Elements.{All-nil, All-cons, All-append}
use Rattle.lin_form.specs.declared.form.Comparison.{Comparison}
use Rattle.chart_model.specs.Guard.{comparisons_of, depth_of_guard}
use Rattle.chart_model.specs.Chart.{IsFormOver, IsGuard}
use Rattle.line_forms.specs.Trees as written
use Rattle.line_forms.specs.Limits.{AreSmallTests, IsSmallGuard}
use Rattle.line_checks.specs.Names.{Names}
use Rattle.line_checks.specs.Sums.{comparison_of}
use Rattle.line_checks.specs.Guards.{guard_of}
use Rattle.line_checks.proofs.Moderate.{comparison_over}

tests_counted : (s : Names) (width : ℕ) (g : written.Tree) → length (comparisons_of (guard_of s width g)) ≡ written.tests_of g
tests_counted s width (written.test t) = refl
tests_counted s width (written.not g) = tests_counted s width g
tests_counted s width (written.and g h) = let a = tests_counted s width g in let b = tests_counted s width h in
    let e = length-append (comparisons_of (guard_of s width g)) (comparisons_of (guard_of s width h)) in omega (arith, a, b, e)
tests_counted s width (written.or g h) = let a = tests_counted s width g in let b = tests_counted s width h in
    let e = length-append (comparisons_of (guard_of s width g)) (comparisons_of (guard_of s width h)) in omega (arith, a, b, e)

some_tests : (g : written.Tree) → 1 ≤ written.tests_of g
some_tests (written.test t) = omega arith
some_tests (written.not g) = some_tests g
some_tests (written.and g h) = let a = some_tests g in omega (arith, a)
some_tests (written.or g h) = let a = some_tests g in omega (arith, a)

-- a guard is no deeper than it has comparisons and `not`s
depth_counted : (s : Names) (width : ℕ) (g : written.Tree) → depth_of_guard (guard_of s width g) ≤ written.tests_of g + written.nots_of g
depth_counted s width (written.test t) = omega arith
depth_counted s width (written.not g) = let a = depth_counted s width g in omega (arith, a)
depth_counted s width (written.and g h) = let a = depth_counted s width g in let b = depth_counted s width h in let k = some_tests g in
    let l = some_tests h in omega (arith, a, b, k, l)
depth_counted s width (written.or g h) = let a = depth_counted s width g in let b = depth_counted s width h in let k = some_tests g in
    let l = some_tests h in omega (arith, a, b, k, l)

guard_forms : (s : Names) (width : ℕ) (g : written.Tree) → width ≤ 6 → AreSmallTests g
    → All (λ (c : Comparison). IsFormOver width (length s.memories) c.form) (comparisons_of (guard_of s width g))
guard_forms s width (written.test t) few small =
    let Over : Comparison → Type 0 = λ c. IsFormOver width (length s.memories) c.form in
    All-cons Over (comparison_of s width t) [] (comparison_over s width t few small) (All-nil Over)
guard_forms s width (written.not g) few small = guard_forms s width g few small
guard_forms s width (written.and g h) few small = All-append (λ (c : Comparison). IsFormOver width (length s.memories) c.form)
    (comparisons_of (guard_of s width g)) (comparisons_of (guard_of s width h)) (guard_forms s width g few small.0)
    (guard_forms s width h few small.1)
guard_forms s width (written.or g h) few small = All-append (λ (c : Comparison). IsFormOver width (length s.memories) c.form)
    (comparisons_of (guard_of s width g)) (comparisons_of (guard_of s width h)) (guard_forms s width g few small.0)
    (guard_forms s width h few small.1)

pub guard_fits : (s : Names) (width : ℕ) (g : written.Tree) → width ≤ 6 → IsSmallGuard g → written.tests_of g ≤ 64
    → IsGuard width (length s.memories) (guard_of s width g)
guard_fits s width g few small tests = record {
  few = let e = tests_counted s width g in omega (arith, e, tests);
  shallow = let d = depth_counted s width g in let n = small.nots in omega (arith, d, n, tests);
  forms = guard_forms s width g few small.tests;
}
