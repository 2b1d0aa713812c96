use Rattle.std.proofs.Common.{◌≡◌, ◌++◌, map, length, append_assoc, take, [], Bor, arith, ap, sym, subst, ◌∙◌}
use Rattle.std.specs.List.{list_any}
use Rattle.std.proofs.lemmas.List.{take_all}
use Rattle.lin_form.specs.declared.form.Comparison.{Comparison}
use Rattle.guard_atoms.specs.Atoms.{guard_comparisons, is_large}
use Rattle.guard_atoms.specs.inside.Claims.{AreClaims}
use Rattle.guard_atoms.proofs.Saying.{box_is, claims_more, item_over}
use Rattle.guard_atoms.proofs.assumptions.assumed.Goals as goal

pub loop-assumption-preserved : goal.loop-assumption-preserved
loop-assumption-preserved c =
    let chart = c.args.chart.now in
    let over = item_over (length chart.signature.inputs) chart.assumed c.as_slice-assumptions.result.now c.loop-assumption.assumption-index c.assumption-item.result chart.kept.assumptions c.as_slice-assumptions.ensures c.loop-assumption-test.true c.assumption-item.is in
    claims_more (length chart.signature.inputs) c.as_slice-assumptions.result.now c.loop-assumption.assumption-index c.assumption-item.result c.loop-assumption.literals.items c.add_claim.new.literals.items c.loop-assumption-test.true c.assumption-item.is over c.loop-assumption.invariant c.in_ok-add_claim.ensures

pub returns : goal.returns
returns c =
    let chart = c.args.chart.now in
    let whole : take c.loop-assumption.assumption-index c.as_slice-assumptions.result.now ≡ chart.assumed = take_all c.loop-assumption.assumption-index c.as_slice-assumptions.result.now c.loop-assumption-test.false ∙ c.as_slice-assumptions.ensures in
    let claims : AreClaims (length chart.signature.inputs) chart.assumed c.loop-assumption.literals.items = subst (λ l. AreClaims (length chart.signature.inputs) l c.loop-assumption.literals.items) whole c.loop-assumption.invariant in
    let listed : map (λ (q : Bor Comparison). q.now) c.as_slice.result.now ≡ guard_comparisons chart ++ [] = ap (map (λ (q : Bor Comparison). q.now)) c.as_slice.ensures.value ∙ c.in_ok-comparisons.ensures in
    let at_most = chart.kept.counts.few_assumed in
    let few = claims.few in
    record {
      box = box_is chart c.loop-assumption.literals.items (length chart.signature.inputs) claims;
      few = omega arith;
      width = claims.width;
      small = ap (list_any is_large) (append_assoc chart.assumed (guard_comparisons chart) []) ∙ sym (ap (λ l. list_any is_large (chart.assumed ++ l)) listed) ∙ sym c.has_large.ensures ∙ c.if-has_large.false;
    }
