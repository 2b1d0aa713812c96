use Rattle.std.proofs.Common.{subst, sym}
use Rattle.std.proofs.lemmas.List.Elements.{All-weaker}
use Rattle.lin_form.specs.Range.{IsInRanges}
use Rattle.lin_form.specs.Signature.{IsInInputRanges}
use Rattle.input_classes.specs.VectorSet.{IsIn, box_of}
use Rattle.subject.proofs.laws.box_lies_in_ranges.Goals as goal

pub returns-clause-own : goal.returns-clause-own
returns-clause-own c = λ assumed w. All-weaker (IsIn (box_of c.args.signature.now assumed)) (IsInInputRanges c.args.signature.now.inputs) (λ x h. h.inside) w

pub returns-clause-fitting : goal.returns-clause-fitting
returns-clause-fitting c = λ other assumed w fits. All-weaker (IsIn (box_of c.args.signature.now assumed)) (IsInInputRanges other.inputs) (λ x h. subst (λ ranges. IsInRanges ranges x) (sym fits.ranges) h.inside) w
