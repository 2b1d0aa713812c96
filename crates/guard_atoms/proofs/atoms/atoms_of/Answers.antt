use Rattle.std.proofs.Common.{◌≡◌, ◌≤◌, ◌++◌, All, map, length, append_assoc, false, Bor, ap, sym, subst, ◌∙◌, arith}
use Rattle.std.specs.Prelude.{fold, flat_map, nat_lt, MatchResult}
use Rattle.std.specs.List.{list_any}
use Rattle.lin_form.specs.declared.form.Comparison.{Comparison}
use Rattle.guard_atoms.specs.Answers.{AreAtomsOf, IsAtomFault}
use Rattle.guard_atoms.specs.Atoms.{add, atoms_in, atoms_over, guard_comparisons, has_large_coefficient, is_large}
use Rattle.guard_atoms.specs.inside.Adding.{IsFormOfAtoms}
use Rattle.guard_atoms.proofs.Additions.{fault, passed_on, within_limit}
use Rattle.guard_atoms.proofs.Widths.{atoms_width, forms_of_atoms}
use Rattle.guard_atoms.proofs.atoms.atoms_of.Goals as goal
use Rattle.guard_atoms.proofs.atoms.atoms_of.Goals.{Else-has_large}

-- the comparisons that were listed
items : (c : Else-has_large) → map (λ (q : Bor Comparison). q.now) c.in_ok-comparisons.comparisons.items ≡ guard_comparisons c.args.chart.now ++ c.args.cuts.now
items c = c.in_ok-comparisons.ensures ∙ ap (λ l. guard_comparisons c.args.chart.now ++ l) c.as_slice.ensures.value

-- none of them has a large coefficient
quiet : (c : Else-has_large) → list_any is_large (c.args.chart.now.assumed ++ (guard_comparisons c.args.chart.now ++ c.args.cuts.now)) ≡ false
quiet c =
    let listed = ap (map (λ (q : Bor Comparison). q.now)) c.as_slice-2.ensures.value ∙ items c in
    sym (ap (λ l. list_any is_large (c.args.chart.now.assumed ++ l)) listed) ∙ sym c.has_large.ensures ∙ c.if-has_large.false

small : (c : Else-has_large) → has_large_coefficient c.args.chart.now c.args.cuts.now ≡ false
small c = ap (list_any is_large) (append_assoc c.args.chart.now.assumed (guard_comparisons c.args.chart.now) c.args.cuts.now) ∙ quiet c

pub add_comparisons-requires-clause-forms : goal.add_comparisons-requires-clause-forms
add_comparisons-requires-clause-forms c =
    let d = (goal.at.add_comparisons-requires-clause-forms c).Else-has_large in
    let listed = ap (map (λ (q : Bor Comparison). q.now)) c.as_slice-3.ensures.value ∙ items d in
    subst (All IsFormOfAtoms) (sym listed) (forms_of_atoms c.args.chart.now c.args.cuts.now c.as_slice.ensures.cuts c.requires.width (quiet d))

pub returns-in_err-add_comparisons : goal.returns-in_err-add_comparisons
returns-in_err-add_comparisons c =
    let d = (goal.at.returns-in_err-add_comparisons c).Else-has_large in
    let listed = ap (map (λ (q : Bor Comparison). q.now)) c.as_slice-3.ensures.value ∙ items d in
    passed_on (λ r. MatchResult r (AreAtomsOf c.args.chart.now c.args.cuts.now) (IsAtomFault c.args.chart.now c.args.cuts.now)) c.from_residual-in_err-add_comparisons.result c.in_err-add_comparisons.field-0.0 c.from_residual-in_err-add_comparisons.ensures.1
    (fault c.args.chart.now c.args.cuts.now c.new-found.result (flat_map (atoms_over c.as_slice-memories.result.now) (map (λ (q : Bor Comparison). q.now) c.as_slice-3.result.now)) c.add_comparisons.new.found c.in_err-add_comparisons.field-0.0 c.new-found.ensures
    (λ i. flat_map (atoms_over (c.as_slice-memories.ensures i)) (listed i)) (small d) c.in_err-add_comparisons.ensures)

pub returns : goal.returns
returns c =
    let d = (goal.at.returns c).Else-has_large in
    let listed = ap (map (λ (q : Bor Comparison). q.now)) c.as_slice-3.ensures.value ∙ items d in
    let whole : c.add_comparisons.new.found ≡ atoms_in c.args.chart.now c.args.cuts.now =
    c.in_ok-add_comparisons.ensures.0 ∙ (λ i. fold add (c.new-found.ensures i) (flat_map (atoms_over (c.as_slice-memories.ensures i)) (listed i))) in
    let are = c.in_ok-into_atoms.ensures ∙ whole in
    let none : length c.new-found.result ≤ 128 = subst (λ l. length l ≤ 128) (sym c.new-found.ensures) (omega arith) in
    record {
      listed = are;
      width = atoms_width c.args.chart.now c.args.cuts.now c.in_ok-into_atoms.field-0 c.as_slice.ensures.cuts c.requires.width are;
      small = small d;
      few = ap (λ l. nat_lt 128 (length l)) (sym whole) ∙ within_limit (length c.add_comparisons.new.found) (c.in_ok-add_comparisons.ensures.1 none);
    }
