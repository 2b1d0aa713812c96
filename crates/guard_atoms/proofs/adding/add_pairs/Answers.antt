use Rattle.std.proofs.Common.{◌≡◌, ◌++◌, ◌+◌, List, [], FitsSigned, w64, ℤ, pos, map, get_or, drop, Err, Ok, rules, subst}
use Rattle.std.specs.Prelude.{flat_map}
use Rattle.std.specs.List.{cons_option}
use Rattle.std.proofs.lemmas.Int.{to_z-of_z}
use Rattle.lin_form.specs.Atom.{inequality_of}
use Rattle.lin_form.specs.Inequality.{Inequality}
use Rattle.guard_atoms.specs.inside.Adding.{Adds, atoms_with}
use Rattle.guard_atoms.proofs.Additions.{IsAdding, goes_on, one_left, passed_on, stops}
use Rattle.guard_atoms.proofs.adding.add_pairs.Goals as goal
use Rattle.guard_atoms.proofs.adding.add_pairs.Goals.{After-pair}

abbrev with : (c : After-pair) → ℤ → List Inequality
with c = atoms_with c.args.relation c.args.direction.now

abbrev all : (c : After-pair) → List Inequality
all c = flat_map (atoms_with c.args.relation c.args.direction.now) c.args.constants.now

abbrev here : (c : After-pair) → List Inequality
here c = atoms_with c.args.relation c.args.direction.now (get_or c.args.constants.now c.loop-constant.constant-index (pos 0))

abbrev later : (c : After-pair) → List Inequality
later c = flat_map (atoms_with c.args.relation c.args.direction.now) (drop (c.loop-constant.constant-index + 1) c.args.constants.now)

paired : (c : After-pair) → map inequality_of (cons_option c.pair.result.first (cons_option c.pair.result.second [])) ≡ here c
paired c =
    let f : FitsSigned w64 (get_or c.args.constants.now c.loop-constant.constant-index (pos 0)) = search rules in
    simp to_z-of_z at c.pair.ensures.atoms

left : (c : After-pair) → IsAdding c.args.found.now (all c) c.loop-constant.found (here c ++ later c)
left c = one_left (with c) c.args.found.now (all c) c.loop-constant.found c.args.constants.now c.loop-constant.constant-index (pos 0) c.loop-constant-test.true c.loop-constant.invariant

pub returns-in_err-add_pair : goal.returns-in_err-add_pair
returns-in_err-add_pair c =
    let d = (goal.at.returns-in_err-add_pair c).After-pair in
    passed_on (Adds c.args.found.now (all d) c.add_pair.new.found) c.from_residual.result c.in_err-add_pair.field-0.0 c.from_residual.ensures.1
    (stops c.args.found.now (all d) c.loop-constant.found (here d) (later d) c.add_pair.new.found c.in_err-add_pair.field-0.0 (left d)
    (subst (λ l. Adds c.loop-constant.found l c.add_pair.new.found (Err c.in_err-add_pair.field-0.0)) (paired d) c.in_err-add_pair.ensures))

pub loop-constant-preserved : goal.loop-constant-preserved
loop-constant-preserved c =
    let d = (goal.at.loop-constant-preserved c).After-pair in
    goes_on c.args.found.now (all d) c.loop-constant.found (here d) (later d) c.add_pair.new.found (left d)
    (subst (λ l. Adds c.loop-constant.found l c.add_pair.new.found (Ok tt)) (paired d) c.in_ok-add_pair.ensures)
