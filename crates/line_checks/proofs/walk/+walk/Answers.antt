use Rattle.std.proofs.Common.{refl, arith}
use Rattle.line_forms.specs.Trees as tree
use Rattle.line_forms.specs.Grammar.{not, paren, test, unit_tree, conj_tree}
use Rattle.line_forms.specs.declared.error.ParseError.TheVariants.{Form}
use Rattle.line_forms.proofs.Chains.{not_longest, not_failed, paren_longest, paren_failed, not_closed, unit_test, unit_failed, conj_begin}
use Rattle.line_forms.proofs.Chains.{conj_failed, conj_next, conj_end, guard_begin, guard_failed, guard_next, guard_end}
use Rattle.line_checks.proofs.walk.+walk.Goals as goal

pub unit_end-returns-in-Some-clause-found : goal.unit_end-returns-in-Some-clause-found
unit_end-returns-in-Some-clause-found t c =
    let h = c.in-Some.ensures.found in
    (not h.0, not_longest c.args.line.now c.args.at c.in-Some.end h.0 c.if-is_reserved.ensures.found h.1)

pub unit_end-returns-in-None-clause-found : goal.unit_end-returns-in-None-clause-found
unit_end-returns-in-None-clause-found t c = not_failed c.args.line.now c.args.at Form c.if-is_reserved.ensures.found c.in-None.ensures.found

pub unit_end-returns-in_default-clause-found : goal.unit_end-returns-in_default-clause-found
unit_end-returns-in_default-clause-found t c = paren_failed c.args.line.now c.args.at Form c.if-is_open.ensures.found c.in_default.ensures.found

pub unit_end-returns-then-not-is_close-clause-found : goal.unit_end-returns-then-not-is_close-clause-found
unit_end-returns-then-not-is_close-clause-found t c =
    let h = c.in-Some-guard_end.ensures.found in
    not_closed c.args.line.now c.args.at c.in-Some-guard_end.end h.0 c.if-is_open.ensures.found h.1 c.if-not-is_close.ensures.found

pub unit_end-returns-then-is_open-clause-found : goal.unit_end-returns-then-is_open-clause-found
unit_end-returns-then-is_open-clause-found t c =
    let h = c.in-Some-guard_end.ensures.found in
    (paren h.0, paren_longest c.args.line.now c.args.at c.in-Some-guard_end.end h.0 c.if-is_open.ensures.found h.1 c.if-not-is_close.ensures.found)

pub unit_end-returns-in-Some-test_end-clause-found : goal.unit_end-returns-in-Some-test_end-clause-found
unit_end-returns-in-Some-test_end-clause-found t c =
    let h = c.in-Some-test_end.ensures.found in
    (test h.0, unit_test c.args.line.now c.args.at c.in-Some-test_end.end h.0 c.if-is_reserved.ensures.found c.if-is_open.ensures.found h.1)

pub unit_end-returns-in-None-test_end-clause-found : goal.unit_end-returns-in-None-test_end-clause-found
unit_end-returns-in-None-test_end-clause-found t c = unit_failed c.args.line.now c.args.at Form c.if-is_reserved.ensures.found
    c.if-is_open.ensures.found c.in-None-test_end.ensures.found

pub conj_end-returns-in_default-clause-found : goal.conj_end-returns-in_default-clause-found
conj_end-returns-in_default-clause-found t c = conj_failed c.args.line.now c.args.at Form c.in_default.ensures.found

pub conj_end-units-init : goal.conj_end-units-init
conj_end-units-init t c =
    let h = c.in-Some.ensures.found in
    let inside = c.in-Some.ensures.inside in
    (unit_tree h.0, conj_begin c.args.line.now c.args.at c.in-Some.end (unit_tree h.0) h.0 h.1 refl inside.0 inside.1)

pub conj_end-returns-in_default-unit_end-clause-found : goal.conj_end-returns-in_default-unit_end-clause-found
conj_end-returns-in_default-unit_end-clause-found t c =
    let r = conj_end c.args.line.now c.args.at c.units.end c.units.invariant.0 c.units.invariant.1 (λ h. c.in_default-unit_end.ensures.found) in
    (r.0, r.1)

pub conj_end-units-preserved : goal.conj_end-units-preserved
conj_end-units-preserved t c =
    let h = c.in-Some-unit_end.ensures.found in
    let inside = c.in-Some-unit_end.ensures.inside in
    let value = c.units.invariant.0 in (
      tree.and value (unit_tree h.0),
      conj_next c.args.line.now c.args.at c.units.end c.in-Some-unit_end.next value
          (tree.and value (unit_tree h.0)) h.0 c.units.invariant.1 c.units-test.ensures.found h.1 refl
          (omega (arith, inside.0)) inside.1,
    )

pub conj_end-returns-clause-found : goal.conj_end-returns-clause-found
conj_end-returns-clause-found t c =
    let r = conj_end c.args.line.now c.args.at c.units.end c.units.invariant.0 c.units.invariant.1 (λ h. absurd (c.units-test.ensures.found h)) in
    (r.0, r.1)

pub guard_end-returns-in_default-clause-found : goal.guard_end-returns-in_default-clause-found
guard_end-returns-in_default-clause-found t c = guard_failed c.args.line.now c.args.at Form c.in_default.ensures.found

pub guard_end-conjs-init : goal.guard_end-conjs-init
guard_end-conjs-init t c =
    let h = c.in-Some.ensures.found in
    let inside = c.in-Some.ensures.inside in
    (conj_tree h.0, guard_begin c.args.line.now c.args.at c.in-Some.end (conj_tree h.0) h.0 h.1 refl inside.0 inside.1)

pub guard_end-returns-in_default-conj_end-clause-found : goal.guard_end-returns-in_default-conj_end-clause-found
guard_end-returns-in_default-conj_end-clause-found t c =
    let r = guard_end c.args.line.now c.args.at c.conjs.end c.conjs.invariant.0 c.conjs.invariant.1 (λ h. c.in_default-conj_end.ensures.found) in
    (r.0, r.1)

pub guard_end-conjs-preserved : goal.guard_end-conjs-preserved
guard_end-conjs-preserved t c =
    let h = c.in-Some-conj_end.ensures.found in
    let inside = c.in-Some-conj_end.ensures.inside in
    let value = c.conjs.invariant.0 in (
      tree.or value (conj_tree h.0),
      guard_next c.args.line.now c.args.at c.conjs.end c.in-Some-conj_end.next value
          (tree.or value (conj_tree h.0)) h.0 c.conjs.invariant.1 c.conjs-test.ensures.found h.1 refl
          (omega (arith, inside.0)) inside.1,
    )

pub guard_end-returns-clause-found : goal.guard_end-returns-clause-found
guard_end-returns-clause-found t c =
    let r = guard_end c.args.line.now c.args.at c.conjs.end c.conjs.invariant.0 c.conjs.invariant.1 (λ h. absurd (c.conjs-test.ensures.found h)) in
    (r.0, r.1)
