use Rattle.std.proofs.Common.{◌≡◌, ◌≤◌, [], ◌∷◌, sym, subst, arith}
use Rattle.subject.specs.Alike.{ActsLike, HasRank}
use Rattle.subject.specs.FiniteMap.{FiniteMap, plan_of_map}
use Rattle.subject.specs.inside.Examples.{lamp, pressed}
use Rattle.subject.specs.Method.{IsTested}
use Rattle.input_classes.specs.VectorSet.{box_of}
use Rattle.subject.proofs.Lamp.{lamp_is_tested, presses_alike, presses_apart, two_states}
use Rattle.subject.proofs.Ranks.{rank_within}
use Rattle.subject.proofs.tests.definitions.lamp_is_as_defined.Goals as goal

is_lamp : (f : FiniteMap) → f.entries ≡ lamp → record { signature = f.signature; entries = lamp } ≡ f
is_lamp f e = λ i. record { signature = f.signature; entries = sym e i }

pub returns-clause-alike : goal.returns-clause-alike
returns-clause-alike c =
    let f = c.args.plan.now in
    subst (λ g. ActsLike (box_of f.signature []) (plan_of_map g) (pressed 1) (pressed 2)) (is_lamp f c.requires.entries) (presses_alike f.signature c.requires.ranges)

pub returns-clause-apart : goal.returns-clause-apart
returns-clause-apart c =
    let f = c.args.plan.now in
    subst (λ g. ActsLike (box_of f.signature []) (plan_of_map g) (pressed 0) (pressed 1) → ⊥) (is_lamp f c.requires.entries) (presses_apart f.signature c.requires.ranges)

pub returns-clause-two : goal.returns-clause-two
returns-clause-two c =
    let f = c.args.plan.now in
    subst (λ g. HasRank (box_of f.signature []) (plan_of_map g) 2) (is_lamp f c.requires.entries) (two_states f.signature c.requires.ranges)

pub returns-clause-not_one : goal.returns-clause-not_one
returns-clause-not_one c =
    let f = c.args.plan.now in
    let rank = subst (λ g. HasRank (box_of f.signature []) (plan_of_map g) 2) (is_lamp f c.requires.entries) (two_states f.signature c.requires.ranges) in
    λ most.
    let few : 2 ≤ 1 = rank_within (plan_of_map f) (box_of f.signature []) (box_of f.signature []) (λ w h. h) 2 1 rank most in
    omega arith

pub returns-clause-tested : goal.returns-clause-tested
returns-clause-tested c =
    let f = c.args.plan.now in
    λ d. subst (λ g. IsTested (box_of f.signature []) (plan_of_map g) (plan_of_map g) ([] ∷ (pressed 1 ∷ []) ∷ []) ((pressed 1 ∷ []) ∷ []) d) (is_lamp f c.requires.entries) (lamp_is_tested f.signature c.requires.ranges d)
