use Rattle.std.proofs.Common.{◌≡◌, length, Some, true, ◌∙◌, ap, sym, arith}
use Rattle.std.specs.Prelude.{slice_get}
use Rattle.std.proofs.lemmas.Option.{same_Some, slice_get_within}
use Rattle.chart_model.specs.Chart.{IsTransition}
use Rattle.chart_meaning.specs.Step.{is_guard_true}
use Rattle.chart_meaning.proofs.Acting.{All_found, AreWithin-padded}
use Rattle.chart_meaning.proofs.Enabling.{is_guard_true-places}
use Rattle.chart_meaning.proofs.Leaving.{item_found}
use Rattle.chart_meaning.proofs.Listing.{row_inside, IsNextRow, IsScanning-start, IsScanning-next, IsScanning-more, IsScanning-found}
use Rattle.chart_meaning.proofs.Listing.{IsScanning-place, IsScanning-end, IsScanning-past}
use Rattle.chart_meaning.proofs.firing.firing.Goals.{After-index-as_slice-row, Then-is_guard_true}
use Rattle.chart_meaning.proofs.firing.firing.Goals as goal

found : (c : After-index-as_slice-row) → slice_get c.args.chart.now.transitions c.index-rows-place.result.transition ≡ Some c.index-as_slice-row.result
found c =
    let inside = row_inside c.args.chart.now c.args.config.now.leaf c.args.input.now c.args.config.now.memory
    c.args.rows.now c.loop-place.place c.index-rows-place.result c.loop-place-test.true c.index-rows-place.is
    c.loop-place.invariant in
    item_found c.args.chart.now.transitions c.as_slice.result.now c.index-rows-place.result.transition
    c.index-as_slice-row.result inside c.as_slice.ensures c.index-as_slice-row.is

next : (c : Then-is_guard_true) → IsNextRow c.args.chart.now c.args.config.now.leaf c.args.input.now c.args.config.now.memory
    c.args.rows.now c.loop-place.place c.index-rows-place.result
next c = IsScanning-next c.args.chart.now c.args.config.now.leaf c.args.input.now c.args.config.now.memory
    c.args.rows.now c.loop-place.place c.index-rows-place.result c.loop-place-test.true c.index-rows-place.is
    c.loop-place.invariant

-- the guard of the row at the place is true
holds : (c : Then-is_guard_true) → is_guard_true c.args.input.now c.args.config.now.memory (next c).transition ≡ true
holds c =
    let n = next c in
    let within = slice_get_within c.args.chart.now.transitions c.index-rows-place.result.transition n.transition n.is.is in
    let here = item_found c.args.chart.now.transitions c.as_slice.result.now c.index-rows-place.result.transition
    c.index-as_slice-row.result within c.as_slice.ensures c.index-as_slice-row.is in
    let same = same_Some n.transition c.index-as_slice-row.result (sym n.is.is ∙ here) in
    ap (is_guard_true c.args.input.now c.args.config.now.memory) same
    ∙ is_guard_true-places c.args.input.now c.args.config.now.memory c.memory-memory.result
    c.index-as_slice-row.result c.is_guard_true.result c.memory-memory.ensures c.is_guard_true.ensures
    ∙ c.if-is_guard_true.true

pub loop-place-init : goal.loop-place-init
loop-place-init c = IsScanning-start c.args.chart.now c.args.config.now.leaf c.args.input.now c.args.config.now.memory c.args.rows.now c.requires.rows

pub bounds-as_slice-row : goal.bounds-as_slice-row
bounds-as_slice-row c =
    rw c.as_slice.ensures
    (row_inside c.args.chart.now c.args.config.now.leaf c.args.input.now c.args.config.now.memory c.args.rows.now
    c.loop-place.place c.index-rows-place.result c.loop-place-test.true c.index-rows-place.is c.loop-place.invariant)

pub is_guard_true-requires-clause-transition : goal.is_guard_true-requires-clause-transition
is_guard_true-requires-clause-transition c =
    All_found (IsTransition (length c.args.chart.now.signature.inputs) (length c.args.chart.now.memories)
    (length c.args.chart.now.signature.outputs) c.args.chart.now.states) c.args.chart.now.transitions
    c.index-rows-place.result.transition c.index-as_slice-row.result c.args.chart.now.kept.moves (found c.before)

pub is_guard_true-requires-clause-values : goal.is_guard_true-requires-clause-values
is_guard_true-requires-clause-values c =
    rw c.memory-memory.ensures
    (AreWithin-padded c.args.chart.now.memories c.args.config.now.memory c.args.chart.now.kept.ranges
    c.requires.values.memory)

pub returns-then-is_guard_true-clause-branch : goal.returns-then-is_guard_true-clause-branch
returns-then-is_guard_true-clause-branch c =
    IsScanning-place c.args.chart.now c.args.config.now.leaf c.args.input.now c.args.config.now.memory c.args.rows.now
    c.loop-place.place c.index-rows-place.result (next c) (holds c)

pub returns-then-is_guard_true-clause-row : goal.returns-then-is_guard_true-clause-row
returns-then-is_guard_true-clause-row c =
    IsScanning-found c.args.chart.now c.args.config.now.leaf c.args.input.now c.args.config.now.memory c.args.rows.now
    c.loop-place.place c.index-rows-place.result (next c) c.loop-place-test.true c.index-rows-place.is (holds c)

pub loop-place-preserved : goal.loop-place-preserved
loop-place-preserved c =
    let n = IsScanning-next c.args.chart.now c.args.config.now.leaf c.args.input.now c.args.config.now.memory
    c.args.rows.now c.loop-place.place c.index-rows-place.result c.loop-place-test.true c.index-rows-place.is
    c.loop-place.invariant in
    let within = slice_get_within c.args.chart.now.transitions c.index-rows-place.result.transition n.transition n.is.is in
    let here = item_found c.args.chart.now.transitions c.as_slice.result.now c.index-rows-place.result.transition
    c.index-as_slice-row.result within c.as_slice.ensures c.index-as_slice-row.is in
    let same = same_Some n.transition c.index-as_slice-row.result (sym n.is.is ∙ here) in
    let fails = ap (is_guard_true c.args.input.now c.args.config.now.memory) same
    ∙ is_guard_true-places c.args.input.now c.args.config.now.memory c.memory-memory.result
    c.index-as_slice-row.result c.is_guard_true.result c.memory-memory.ensures c.is_guard_true.ensures
    ∙ c.if-is_guard_true.false in
    IsScanning-more c.args.chart.now c.args.config.now.leaf c.args.input.now c.args.config.now.memory c.args.rows.now
    c.loop-place.place c.index-rows-place.result n fails

pub returns-clause-branch : goal.returns-clause-branch
returns-clause-branch c =
    IsScanning-past c.args.chart.now c.args.config.now.leaf c.args.input.now c.args.config.now.memory
    c.args.rows.now c.loop-place.place (omega (arith, c.loop-place-test.false, c.loop-place.auto.place-end)) c.loop-place.invariant

pub returns-clause-row : goal.returns-clause-row
returns-clause-row c =
    IsScanning-end c.args.chart.now c.args.config.now.leaf c.args.input.now c.args.config.now.memory
    c.args.rows.now c.loop-place.place c.loop-place-test.false c.loop-place.invariant
