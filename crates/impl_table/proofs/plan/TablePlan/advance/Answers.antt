use Rattle.std.proofs.Common.{◌≡◌, ◌<◌, length, arith, sym}
use Rattle.lin_form.proofs.CallerLemmas.{length-IsInInputRanges, AreRanges-inputs, AreWithin-ranges}
use Rattle.lin_form.specs.Signature.{ranges_of}
use Rattle.impl_table.specs.declared.table.Row.{Row}
use Rattle.impl_table.specs.Firing.{first_row}
use Rattle.impl_table.proofs.Steps.{readable_rows, first_keeps, row_to}
use Rattle.impl_table.proofs.plan.TablePlan.advance.Goals as goal

pub first_enabled-requires-clause-readable : goal.first_enabled-requires-clause-readable
first_enabled-requires-clause-readable c =
    let table = c.args.self.now in
    let numbers = length c.args.input.now in
    let same = length-IsInInputRanges table.signature.inputs c.args.input.now c.requires.fits in
    readable_rows (length table.signature.inputs) (length table.signature.outputs) (length table.states) numbers table.rows same table.kept.moves

pub first_enabled-requires-clause-numbers : goal.first_enabled-requires-clause-numbers
first_enabled-requires-clause-numbers c =
    let signature = c.args.self.now.signature in
    AreWithin-ranges (ranges_of signature.inputs) c.args.input.now (AreRanges-inputs signature.inputs signature.inputs_fit) c.requires.fits

pub overflow_cast-result : goal.overflow_cast-result
overflow_cast-result c =
    let table = c.args.self.now in
    let found : first_row table.rows c.args.state.now c.args.input.now ≡ _ = sym c.in-Some.ensures in
    let less = first_keeps (λ (row : Row). row.to < length table.states) table.rows c.args.state.now c.args.input.now c.in-Some.row.now
    (row_to (length table.signature.inputs) (length table.signature.outputs) (length table.states) table.rows table.kept.moves) found in
    let most = table.kept.few_states.limit in
    omega (arith, less, most)
