use Rattle.std.proofs.Common.{◌≡◌, ◌++◌, ◌+◌, ◌<◌, List, length, map, get_or, drop, Err, Ok, Bor, ap, sym, subst}
use Rattle.std.specs.Prelude.{flat_map}
use Rattle.std.proofs.lemmas.List.Elements.{All-get_or}
use Rattle.lin_form.specs.Inequality.{Inequality}
use Rattle.lin_form.specs.declared.form.Comparison.{Comparison}
use Rattle.guard_atoms.specs.Atoms.{atoms_over}
use Rattle.guard_atoms.specs.inside.Adding.{Adds, IsFormOfAtoms}
use Rattle.guard_atoms.proofs.Additions.{IsAdding, goes_on, one_left, passed_on, stops}
use Rattle.guard_atoms.proofs.Sizes.{mapped_at, within}
use Rattle.guard_atoms.proofs.adding.add_comparisons.Goals as goal
use Rattle.guard_atoms.proofs.adding.add_comparisons.Goals.{After-comparison-item}

-- the comparisons, and which one this is
abbrev listed : (c : After-comparison-item) → List Comparison
listed c = map (λ (q : Bor Comparison). q.now) c.args.comparisons.now

inside : (c : After-comparison-item) → c.loop-comparison.comparison-index < length (listed c)
inside c = within (λ (q : Bor Comparison). q.now) c.args.comparisons.now c.loop-comparison.comparison-index c.loop-comparison-test.true

at : (c : After-comparison-item) → get_or (listed c) c.loop-comparison.comparison-index c.comparison-item.result.now ≡ c.comparison-item.result.now
at c = mapped_at (λ (q : Bor Comparison). q.now) c.args.comparisons.now c.loop-comparison.comparison-index c.comparison-item.result c.loop-comparison-test.true c.comparison-item.is

-- all atoms, those of this comparison, and those of the later ones
abbrev all : (c : After-comparison-item) → List Inequality
all c = flat_map (atoms_over c.args.memories.now) (listed c)

abbrev here : (c : After-comparison-item) → List Inequality
here c = atoms_over c.args.memories.now (get_or (listed c) c.loop-comparison.comparison-index c.comparison-item.result.now)

abbrev later : (c : After-comparison-item) → List Inequality
later c = flat_map (atoms_over c.args.memories.now) (drop (c.loop-comparison.comparison-index + 1) (listed c))

same : (c : After-comparison-item) → atoms_over c.args.memories.now c.comparison-item.result.now ≡ here c
same c = ap (atoms_over c.args.memories.now) (sym (at c))

left : (c : After-comparison-item) → IsAdding c.args.found.now (all c) c.loop-comparison.found (here c ++ later c)
left c = one_left (atoms_over c.args.memories.now) c.args.found.now (all c) c.loop-comparison.found (listed c) c.loop-comparison.comparison-index c.comparison-item.result.now (inside c) c.loop-comparison.invariant

pub add_comparison-requires-clause-form : goal.add_comparison-requires-clause-form
add_comparison-requires-clause-form c =
    let d = (goal.at.add_comparison-requires-clause-form c).After-comparison-item in
    subst IsFormOfAtoms (at d) (All-get_or IsFormOfAtoms (listed d) c.loop-comparison.comparison-index c.comparison-item.result.now (inside d) c.requires.forms)

pub returns-in_err-add_comparison : goal.returns-in_err-add_comparison
returns-in_err-add_comparison c =
    let d = (goal.at.returns-in_err-add_comparison c).After-comparison-item in
    passed_on (Adds c.args.found.now (all d) c.add_comparison.new.found) c.from_residual.result c.in_err-add_comparison.field-0.0 c.from_residual.ensures.1
    (stops c.args.found.now (all d) c.loop-comparison.found (here d) (later d) c.add_comparison.new.found c.in_err-add_comparison.field-0.0 (left d)
    (subst (λ l. Adds c.loop-comparison.found l c.add_comparison.new.found (Err c.in_err-add_comparison.field-0.0)) (same d) c.in_err-add_comparison.ensures))

pub loop-comparison-preserved : goal.loop-comparison-preserved
loop-comparison-preserved c =
    let d = (goal.at.loop-comparison-preserved c).After-comparison-item in
    goes_on c.args.found.now (all d) c.loop-comparison.found (here d) (later d) c.add_comparison.new.found (left d)
    (subst (λ l. Adds c.loop-comparison.found l c.add_comparison.new.found (Ok tt)) (same d) c.in_ok-add_comparison.ensures)
