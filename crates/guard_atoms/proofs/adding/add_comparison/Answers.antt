use Rattle.std.proofs.Common.{◌≡◌, false, true, FitsSigned, w64, rules, ap, sym, ◌∙◌}
use Rattle.std.specs.Prelude.{fold, flat_map}
use Rattle.std.proofs.lemmas.Int.{to_z-of_z}
use Rattle.lin_form.specs.Normal.{are_zero}
use Rattle.lin_form.proofs.Deciding.{some_tested}
use Rattle.guard_atoms.specs.Atoms.{add, atoms_over}
use Rattle.guard_atoms.specs.inside.Adding.{atoms_with}
use Rattle.guard_atoms.proofs.Additions.{adds_same, of_constants, of_none}
use Rattle.guard_atoms.proofs.adding.add_comparison.Goals as goal

pub returns-then-are_zero : goal.returns-then-are_zero
returns-then-are_zero c =
    let zero : are_zero c.args.comparison.now.form.inputs ≡ true = ap are_zero (sym c.as_slice.ensures.value) ∙ sym c.are_zero.ensures ∙ c.if-are_zero.true in
    (ap (fold add c.args.found.now) (sym (of_none c.args.memories.now c.args.comparison.now zero)), λ few. few)

pub of-direction-requires-clause-some : goal.of-direction-requires-clause-some
of-direction-requires-clause-some c =
    some_tested c.args.comparison.now.form.inputs (ap are_zero (sym c.as_slice.ensures.value) ∙ sym c.are_zero.ensures ∙ c.if-are_zero.false)

pub returns : goal.returns
returns c =
    let some : are_zero c.args.comparison.now.form.inputs ≡ false = ap are_zero (sym c.as_slice.ensures.value) ∙ sym c.are_zero.ensures ∙ c.if-are_zero.false in
    let k : FitsSigned w64 c.args.comparison.now.form.constant = search rules in
    let constants = simp to_z-of_z at c.in_ok-constants.ensures.constants in
    let same = of_constants c.args.memories.now c.args.comparison.now c.in_ok-constants.constants.items some constants in
    adds_same c.args.found.now (flat_map (atoms_with c.args.comparison.now.relation c.of-direction.result) c.as_slice-2.result.now) (atoms_over c.args.memories.now c.args.comparison.now) c.add_pairs.new.found c.add_pairs.result
    ((λ i. flat_map (atoms_with c.args.comparison.now.relation (c.of-direction.ensures i)) (c.as_slice-2.ensures.value i)) ∙ same) c.add_pairs.ensures
