use Rattle.lin_form.proofs.CallerLemmas.{AreRanges-inputs, AreWithin-ranges, length-IsInInputRanges}
use Rattle.lin_form.specs.Signature.{ranges_of}
use Rattle.chart_meaning.proofs.Enabling.{IsReadableGuard-over}
use Rattle.chart_meaning.proofs.firing.is_guard_true.Goals as goal

pub is_true_within-requires-clause-readable : goal.is_true_within-requires-clause-readable
is_true_within-requires-clause-readable c =
    let guard = c.requires.transition.guard c.in-Some.condition c.in-Some.is in
    let same = length-IsInInputRanges c.args.chart.now.signature.inputs c.args.input.now c.requires.input in
    IsReadableGuard-over c.in-Some.condition _ _ _ same guard.forms

pub is_true_within-requires-clause-numbers : goal.is_true_within-requires-clause-numbers
is_true_within-requires-clause-numbers c =
    let signature = c.args.chart.now.signature in
    AreWithin-ranges (ranges_of signature.inputs) c.args.input.now (AreRanges-inputs signature.inputs signature.inputs_fit) c.requires.input
