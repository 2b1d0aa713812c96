use Rattle.std.proofs.Common.{◌≡◌, [], sym, subst}
use Rattle.subject.specs.Domain.{Complete}
use Rattle.subject.specs.Meaning.{answer}
use Rattle.subject.specs.Shape.{HasShape, HasWpShape}
use Rattle.subject.specs.Tests.{IsFirstFailure}
use Rattle.subject.specs.FiniteMap.{FiniteMap, plan_of_map}
use Rattle.subject.specs.inside.Examples.{one_class, one_press, silent_suite, loud_press}
use Rattle.subject.proofs.Silent.{enough, too_few, has_shape, has_wp_shape, fails_first}
use Rattle.subject.proofs.tests.definitions.button_is_as_defined.Goals as goal

is_silent : (f : FiniteMap) → f.entries ≡ [] → record { signature = f.signature; entries = [] } ≡ f
is_silent f e = λ i. record { signature = f.signature; entries = sym e i }

pub returns-clause-enough : goal.returns-clause-enough
returns-clause-enough c =
    let f = c.args.plan.now in
    subst (λ g. Complete (plan_of_map g) one_class 1 one_press) (is_silent f c.requires.entries) (enough f.signature c.requires.ranges)

pub returns-clause-too_few : goal.returns-clause-too_few
returns-clause-too_few c =
    let f = c.args.plan.now in
    subst (λ g. Complete (plan_of_map g) one_class 1 [] → ⊥) (is_silent f c.requires.entries) (too_few f.signature c.requires.ranges)

pub returns-clause-shape : goal.returns-clause-shape
returns-clause-shape c =
    let f = c.args.plan.now in
    subst (λ g. HasShape (plan_of_map g) one_class 1 (silent_suite f.signature)) (is_silent f c.requires.entries) (has_shape f.signature c.requires.ranges)

pub returns-clause-wp_shape : goal.returns-clause-wp_shape
returns-clause-wp_shape c =
    let f = c.args.plan.now in
    subst (λ g. HasWpShape (plan_of_map g) one_class 1 (silent_suite f.signature)) (is_silent f c.requires.entries) (has_wp_shape f.signature c.requires.ranges)

pub returns-clause-failure : goal.returns-clause-failure
returns-clause-failure c =
    let f = c.args.plan.now in
    subst (λ g. IsFirstFailure (answer (plan_of_map g)) loud_press (record { test = 1; step = 1; given = [] })) (is_silent f c.requires.entries) (fails_first f.signature c.requires.ranges)
