use Rattle.std.proofs.Common.{◌≡◌, sym, subst}
use Rattle.subject.specs.Domain.{Inside}
use Rattle.subject.specs.FiniteMap.{FiniteMap, plan_of_map}
use Rattle.subject.specs.inside.Examples.{lamp, telling, two_classes}
use Rattle.subject.proofs.TwoClasses.{lamp_is_inside, outside_by_states, outside_by_input}
use Rattle.subject.proofs.tests.definitions.domain_is_as_defined.Goals as goal

is_lamp : (f : FiniteMap) → f.entries ≡ lamp → record { signature = f.signature; entries = lamp } ≡ f
is_lamp f e = λ i. record { signature = f.signature; entries = sym e i }

pub returns-clause-inside : goal.returns-clause-inside
returns-clause-inside c = λ a one less.
    let f = c.args.plan.now in
    subst (λ g. Inside (plan_of_map g) (two_classes a) 2 (plan_of_map g)) (is_lamp f c.requires.entries) (lamp_is_inside a one less f.signature c.requires.ranges)

pub returns-clause-by_states : goal.returns-clause-by_states
returns-clause-by_states c = λ a one less.
    let f = c.args.plan.now in
    subst (λ g. Inside (plan_of_map g) (two_classes a) 1 (plan_of_map g) → ⊥) (is_lamp f c.requires.entries) (outside_by_states a one less f.signature c.requires.ranges)

pub returns-clause-by_input : goal.returns-clause-by_input
returns-clause-by_input c = λ a one less.
    let f = c.args.plan.now in
    let i = plan_of_map (record { signature = f.signature; entries = telling }) in
    subst (λ g. Inside (plan_of_map g) (two_classes a) 2 i → ⊥) (is_lamp f c.requires.entries) (outside_by_input a one less f.signature c.requires.ranges)
